use Rattle.std.proofs.Common.{◌≡◌, refl}
use Rattle.merge_files.specs.MergedRows.{oldest_of}
use Rattle.merge_files.specs.Shown.{shown}
use Rattle.merge_files.proofs.RowWords.{row-short, row-put, row-same}
use Rattle.merge_files.proofs.history.put_row.Goals as goal

pub push-requires : goal.push-requires
push-requires c = row-short c.args.tag c.key-word.result.now c.oldest-value.result.now (c.if-not-are_row.ensures refl)

pub returns : goal.returns
returns c =
    let item = shown c.args.item.now in
    let word = c.key-word.result.now in
    let value = c.oldest-value.result.now in
    row-same c.args.writer.now c.push-2.new.self word value item.key (oldest_of item.words) c.key-word.ensures c.oldest-value.ensures
    (row-put c.args.tag word value (c.if-not-are_row.ensures refl) c.args.writer.now c.push.new.self c.push-2.new.self c.requires c.slice_fits.ensures c.in_ok-push.ensures.ok c.in_ok-push-2.ensures.ok)
