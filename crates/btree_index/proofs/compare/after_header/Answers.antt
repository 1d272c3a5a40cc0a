use Rattle.std.proofs.Common.{◌∙◌, ap}
use Rattle.std.specs.Int.{w32, to_be_bytes}
use Rattle.std.proofs.lemmas.Result.{err_from_is_err_and}
use Rattle.word_file.proofs.Agreements.{if_ok, if_err}
use Rattle.btree_index.proofs.Comparisons.{header_goes_on, header_parts_1, header_parts_2, header_parts_3}
use Rattle.btree_index.proofs.compare.after_header.Goals as goal

pub returns-in_err-magic-clause-place : goal.returns-in_err-magic-clause-place
returns-in_err-magic-clause-place c =
    let p = err_from_is_err_and c.from_residual.result c.from_residual.ensures.1 in
    rw (p.1, p.2) (header_parts_1 c.args.bytes.now c.args.count c.to_be_bytes.result c.in_err-magic.field-0.0 c.to_be_bytes.ensures c.in_err-magic.ensures.place)

pub returns-in_err-levels-clause-place : goal.returns-in_err-levels-clause-place
returns-in_err-levels-clause-place c =
    let p = err_from_is_err_and c.from_residual-in_err-levels.result c.from_residual-in_err-levels.ensures.1 in
    rw (p.1, p.2)
    (header_parts_2 c.args.bytes.now c.args.count c.to_be_bytes.result c.to_be_bytes-2.result c.in_ok-magic.magic c.in_err-levels.field-0.0 c.to_be_bytes.ensures
    (c.to_be_bytes-2.ensures ∙ ap (to_be_bytes w32) c.levels_of.ensures.value) c.in_ok-magic.ensures.end c.in_err-levels.ensures.place)

pub returns-clause-end : goal.returns-clause-end
returns-clause-end c =
    if_ok c.follow-3.result _ _
    (λ end go.
    header_goes_on c.args.bytes.now c.args.count c.to_be_bytes.result c.to_be_bytes-2.result c.to_be_bytes-3.result c.in_ok-magic.magic c.in_ok-levels.levels end c.to_be_bytes.ensures
    (c.to_be_bytes-2.ensures ∙ ap (to_be_bytes w32) c.levels_of.ensures.value) c.to_be_bytes-3.ensures c.in_ok-magic.ensures.end c.in_ok-levels.ensures.end go)
    c.follow-3.ensures.end

pub returns-clause-place : goal.returns-clause-place
returns-clause-place c =
    if_err c.follow-3.result _ _
    (λ place apart.
    header_parts_3 c.args.bytes.now c.args.count c.to_be_bytes.result c.to_be_bytes-2.result c.to_be_bytes-3.result c.in_ok-magic.magic c.in_ok-levels.levels place c.to_be_bytes.ensures
    (c.to_be_bytes-2.ensures ∙ ap (to_be_bytes w32) c.levels_of.ensures.value) c.to_be_bytes-3.ensures c.in_ok-magic.ensures.end c.in_ok-levels.ensures.end apart)
    c.follow-3.ensures.place
