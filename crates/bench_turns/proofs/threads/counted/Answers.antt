use Rattle.std.proofs.Common.{ap, ◌∙◌, ◌%◌, ◌*◌, ◌^◌}
use Rattle.bench_turns.proofs.Counts.{all_turns}
use Rattle.bench_turns.proofs.threads.counted.Goals as goal

pub returns : goal.returns
returns g c =
    let zero = c.join_all.ensures.zero in
    let all = all_turns _ _ c.args.count c.close.ensures.history zero.0.0 zero.0.1 c.join_all.ensures.each in
    let threads = c.join_all.ensures.len ∙ (c.in_ok-passes-2.ensures.len ∙ c.in_ok-passes.ensures.len) in
    c.close.ensures.state ∙ (ap (λ n. n % 2 ^ 64) all ∙ ap (λ n. n * c.args.count % 2 ^ 64) threads)
