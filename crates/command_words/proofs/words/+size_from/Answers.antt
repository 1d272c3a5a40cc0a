use Rattle.std.proofs.Common.{map, None, Some, refl, ap, ◌∙◌}
use Rattle.std.proofs.lemmas.List.{length-map}
use Rattle.std.specs.String.{string_bytes}
use Rattle.command_words.proofs.CommandLaws.{from_nothing, from_other, from_joined, from_alone, from_parted}
use Rattle.command_words.proofs.words.+size_from.Goals as goal

pub returns-in_default-clause-exact : goal.returns-in_default-clause-exact
returns-in_default-clause-exact t c =
    from_nothing c.args.given (map string_bytes c.args.words.now) c.unwrap_or.result c.unwrap_or.ensures (length-map c.args.words.now string_bytes ∙ c.in_default.ensures.cases)

pub returns-then-not-is_option-clause-exact : goal.returns-then-not-is_option-clause-exact
returns-then-not-is_option-clause-exact t c =
    from_other c.args.given _ _ _ _ _ (ap (map string_bytes) c.in-Some.ensures.cases.0) c.as_bytes-word.ensures.value c.is_option.ensures c.if-not-is_option.true

pub returns-in_err-size-in-Some-joined_setting-clause-exact :
    goal.returns-in_err-size-in-Some-joined_setting-clause-exact
returns-in_err-size-in-Some-joined_setting-clause-exact t c =
    from_joined c.args.given _ _ _ _ _ _ None _ (ap (map string_bytes) c.in-Some.ensures.cases.0) c.as_bytes-word.ensures.value c.is_option.ensures c.if-not-is_option.false
    c.in-Some-joined_setting.ensures c.in_err-size-in-Some-joined_setting.ensures.exact c.from_residual.ensures

pub returns-in_err-value-in-None-clause-exact : goal.returns-in_err-value-in-None-clause-exact
returns-in_err-value-in-None-clause-exact t c =
    from_alone c.args.given _ _ _ _ _ _ (ap (map string_bytes) c.in-Some.ensures.cases.0) c.as_bytes-word.ensures.value c.is_option.ensures c.if-not-is_option.false
    c.in-None.ensures (length-map c.in-Some.rest.now string_bytes ∙ c.in_err-value-in-None.ensures.cases) c.from_residual-in_err-value-in-None.ensures

pub returns-in_err-size-in-None-clause-exact : goal.returns-in_err-size-in-None-clause-exact
returns-in_err-size-in-None-clause-exact t c =
    from_parted c.args.given _ _ _ _ _ _ _ _ None _ (ap (map string_bytes) c.in-Some.ensures.cases.0) c.as_bytes-word.ensures.value c.is_option.ensures c.if-not-is_option.false
    c.in-None.ensures (ap (map string_bytes) c.in_ok-value-in-None.ensures.cases.0) c.as_bytes.ensures.value c.in_err-size-in-None.ensures.exact c.from_residual-in_err-size-in-None.ensures

pub returns-in_ok-size-in-Some-joined_setting-clause-exact :
    goal.returns-in_ok-size-in-Some-joined_setting-clause-exact
returns-in_ok-size-in-Some-joined_setting-clause-exact t c =
    from_joined c.args.given _ _ _ _ _ _ (Some c.in_ok-size-in-Some-joined_setting.size) _ (ap (map string_bytes) c.in-Some.ensures.cases.0) c.as_bytes-word.ensures.value c.is_option.ensures c.if-not-is_option.false
    c.in-Some-joined_setting.ensures c.in_ok-size-in-Some-joined_setting.ensures.exact c.size_from.ensures.exact

pub returns-in_ok-size-in-None-clause-exact : goal.returns-in_ok-size-in-None-clause-exact
returns-in_ok-size-in-None-clause-exact t c =
    from_parted c.args.given _ _ _ _ _ _ _ _ (Some c.in_ok-size-in-None.size) _ (ap (map string_bytes) c.in-Some.ensures.cases.0) c.as_bytes-word.ensures.value c.is_option.ensures c.if-not-is_option.false
    c.in-None.ensures (ap (map string_bytes) c.in_ok-value-in-None.ensures.cases.0) c.as_bytes.ensures.value c.in_ok-size-in-None.ensures.exact c.size_from-in-None.ensures.exact
