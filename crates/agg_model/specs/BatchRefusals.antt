-- What refuses a batch: the first refusal, going through the changes in order.
use Rattle.std.specs.Prelude.{ℕ, ◌-◌, Bool, not, ◌||◌, nat_lt, nat_le, List, [], ◌∷◌, length, if◌then◌else◌, Option, Some, None}
use Rattle.std.specs.Option.{option_or}
use Rattle.agg_model.specs.declared.change.Act.{Act}
use Rattle.agg_model.specs.declared.change.Act.TheVariants.{Put, Del, Mark}
use Rattle.agg_model.specs.declared.change.Change.{Change}
use Rattle.agg_model.specs.declared.check.BatchError.{BatchError}
use Rattle.agg_model.specs.declared.check.BatchError.TheVariants.{WrongAct, KeyLength, ValueLength, Order, Far}
use Rattle.agg_model.specs.declared.limits.TheConstants.{KEY_MOST, VALUE_MOST}
use Rattle.agg_model.specs.Batch.{fits_entity}

-- a length that is not from 1 to `most`
abbrev pub is_outside : ℕ → ℕ → Bool
is_outside most n = nat_lt n 1 || nat_lt most n

abbrev pub value_refusal : Act → Option BatchError
value_refusal (Put value) = if is_outside VALUE_MOST (length value) then Some (ValueLength (length value)) else None
value_refusal Del = None
value_refusal Mark = None

-- act, key and value
unfoldable pub shape_refusal : Change → Option BatchError
shape_refusal c =
    if not (fits_entity c.entity c.act) then Some (WrongAct c.entity)
    else if is_outside KEY_MOST (length c.key) then Some (KeyLength (length c.key))
    else value_refusal c.act

-- the number, where `least` is the smallest that may come, as an answer names `last`
unfoldable pub number_refusal : ℕ → ℕ → ℕ → ℕ → Option BatchError
number_refusal least last far tx =
    if nat_lt tx least then Some (Order last tx)
    else if nat_le far tx then Some (Far far tx)
    else None

-- the first refusal of the changes
abbrev pub refusal_from : ℕ → ℕ → ℕ → List Change → Option BatchError
refusal_from least last far [] = None
refusal_from least last far (c ∷ cs) =
    option_or (option_or (shape_refusal c) (number_refusal least last far c.tx)) (refusal_from c.tx c.tx far cs)

-- a first change is out of order below `next`, and then `next - 1` is the last number
unfoldable pub first_refusal : ℕ → ℕ → List Change → Option BatchError
first_refusal next far batch = refusal_from next (next - 1) far batch
