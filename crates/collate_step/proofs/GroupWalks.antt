-- One group less to look into.
use Rattle.std.proofs.Common.{◌≡◌, ℕ, ◌+◌, ◌-◌, ◌==◌, ◌<◌, ◌≤◌, Bool, true, false, cond, List, [], ◌∷◌, ◌++◌, map, length, get_or, take, None, refl, sym, ap, ◌∙◌, arith, append-nil}
use Rattle.std.specs.Option.{option_or}
use Rattle.std.specs.List.{filter}
use Rattle.std.proofs.lemmas.List.{take_more, map-append}
use Rattle.std.proofs.lemmas.List.Elements.{filter-append}
use Rattle.agg_model.specs.declared.entity.Entity.{Entity}
use Rattle.agg_model.specs.Entity.{entity_number}
use Rattle.agg_model.specs.Pairs.{word_in, newest_word}
use Rattle.agg_model.proofs.CoverageLaws.{newest_word-push}
use Rattle.collate_step.specs.Groups.{GroupFiles, groups_for, pairs_of, pairs_for, word_of_group}

own-by : (p : GroupFiles → Bool) (g : GroupFiles) (own : List GroupFiles) (t : Bool) → p g ≡ t → filter p own ≡ own → filter p (cond t (g ∷ own) own) ≡ cond t (g ∷ own) own
own-by p g own true is same = rw is (ap (λ (gs : List GroupFiles). g ∷ gs) same)
own-by p g own false is same = same

-- the groups of the entity among those that were picked
pub own-groups : (e : Entity) (groups : List GroupFiles) → groups_for e (groups_for e groups) ≡ groups_for e groups
own-groups e [] = refl
own-groups e (g ∷ groups) = own-by (λ g. entity_number g.entity == entity_number e) g (groups_for e groups) (entity_number g.entity == entity_number e) refl (own-groups e groups)

module _ (e : Entity) (k : List ℕ) where
  abbrev is_mine : GroupFiles → Bool
  is_mine g = entity_number g.entity == entity_number e

  push-by : (files : List GroupFiles) (g : GroupFiles) (t : Bool)
      → newest_word (map pairs_of (files ++ cond t (g ∷ []) [])) k ≡ option_or (cond t (word_in (pairs_of g) k) None) (newest_word (map pairs_of files) k)
  push-by files g true =
      ap (λ fs. newest_word fs k) (map-append pairs_of files (g ∷ [])) ∙ newest_word-push k (map pairs_of files) (pairs_of g)
  push-by files g false = ap (λ fs. newest_word (map pairs_of fs) k) (append-nil files)

  push : (groups : List GroupFiles) (g : GroupFiles) → newest_word (pairs_for e (groups ++ g ∷ [])) k ≡ option_or (word_of_group e g k) (newest_word (pairs_for e groups) k)
  push groups g =
      ap (λ fs. newest_word (map pairs_of fs) k) (filter-append is_mine groups (g ∷ []))
      ∙ push-by (groups_for e groups) g (is_mine g)

  module _ {Z : Type 0} (value : Z → GroupFiles) (groups : List Z) (left : ℕ) (z : Z) (some : 0 < left) (within : left ≤ length groups) (is : z ≡ get_or groups (left - 1) z) where
    last_of : take left groups ≡ take (left - 1) groups ++ z ∷ []
    last_of =
        let one_more : left ≡ left - 1 + 1 = omega arith in
        ap (λ n. take n groups) one_more ∙ take_more groups (left - 1) z (omega arith) ∙ ap (λ f. take (left - 1) groups ++ f ∷ []) (sym is)

    -- the word in the last group, or else the newest in those before it
    pub newest-last : newest_word (pairs_for e (map value (take left groups))) k ≡ option_or (word_of_group e (value z) k) (newest_word (pairs_for e (map value (take (left - 1) groups))) k)
    newest-last =
        ap (λ zs. newest_word (pairs_for e (map value zs)) k) last_of
        ∙ ap (λ gs. newest_word (pairs_for e gs) k) (map-append value (take (left - 1) groups) (z ∷ []))
        ∙ push (map value (take (left - 1) groups)) (value z)
