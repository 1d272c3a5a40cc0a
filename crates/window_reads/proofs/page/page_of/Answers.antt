use Rattle.window_reads.proofs.NumberPages.{page-more}
use Rattle.window_reads.proofs.page.page_of.Goals as goal

pub returns : goal.returns
returns c = page-more c.args.limit c.args.found c.remove-more.new.self c.remove-more.result c.requires c.remove-more.ensures.item c.remove-more.ensures.others
