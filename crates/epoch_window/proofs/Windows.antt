-- A window over the changes from a number on is a narrower window over all of them.
use Rattle.std.specs.Prelude.{◌≡◌, ℕ, ◌≤◌, ◌<◌, ◌&&◌, ◌==◌, not, max, nat_le, nat_lt, Bool, true, false, cond, if◌then◌else◌, List, [], ◌∷◌, map, reverse, take, Option, Some, None, IfSome, refl}
use Rattle.std.proofs.Common.{sym, ◌∙◌, ap, arith, le-leb, leb-true, leb-false}
use Rattle.std.specs.List.{filter}
use Rattle.std.specs.Option.{option_or, option_map}
use Rattle.std.specs.Ordering.{nat_cmp, is_lt}
use Rattle.std.specs.Cmp.Lexicographic.{slice_cmp}
use Rattle.std.proofs.Math.Nat.{le-max_left, le-max_right}
use Rattle.agg_model.specs.declared.entity.Entity.{Entity}
use Rattle.agg_model.specs.declared.change.Act.{Act}
use Rattle.agg_model.specs.declared.change.Change.{Change}
use Rattle.agg_outside.specs.Rows.{Held}
use Rattle.row_epochs.specs.Changes.{changes_seen}
use Rattle.epoch_window.specs.Seen.{seen_from}
use Rattle.agg_model.specs.Entity.{entity_number}
use Rattle.agg_model.specs.Place.{is_of}
use Rattle.agg_model.specs.ChangeList.{last_where, last_change, is_of_before}
use Rattle.agg_model.specs.Contents.{is_within, is_of_within, times, keys_of}
use Rattle.agg_model.specs.Pairs.{hot_change}
use Rattle.hot_keeper.specs.Windows.{act_of_change, window_times, window_keys, is_in_window}

-- ---- two tests

both-by : (p q r : Change → Bool) (x : Change) (xs : List Change) (t u : Bool) → p x ≡ u →
    filter p (filter q xs) ≡ filter r xs →
    filter p (cond t (x ∷ filter q xs) (filter q xs)) ≡ cond (t && u) (x ∷ filter r xs) (filter r xs)
both-by p q r x xs true true is rest =
    ap (λ t. cond t (x ∷ filter p (filter q xs)) (filter p (filter q xs))) is ∙ ap (λ l. x ∷ l) rest
both-by p q r x xs true false is rest =
    ap (λ t. cond t (x ∷ filter p (filter q xs)) (filter p (filter q xs))) is ∙ rest
both-by p q r x xs false u is rest = rest

both : (p q r : Change → Bool) (xs : List Change) → ((x : Change) → r x ≡ (q x && p x)) →
    filter p (filter q xs) ≡ filter r xs
both p q r [] same = refl
both p q r (x ∷ xs) same =
    both-by p q r x xs (q x) (p x) refl (both p q r xs same)
    ∙ ap (λ t. cond t (x ∷ filter r xs) (filter r xs)) (sym (same x))

last-by : (p q r : Change → Bool) (x : Change) (xs : List Change) (t u : Bool) → p x ≡ u →
    last_where p (filter q xs) ≡ last_where r xs →
    last_where p (cond t (x ∷ filter q xs) (filter q xs)) ≡ option_or (last_where r xs) (cond (t && u) (Some x) None)
last-by p q r x xs true u is rest =
    (λ i. option_or (rest i) (cond (is i) (Some x) None))
last-by p q r x xs false u is rest = rest ∙ sym (or-none (last_where r xs))
  where
    or-none : (o : Option Change) → option_or o None ≡ o
    or-none None = refl
    or-none (Some c) = refl

last : (p q r : Change → Bool) (xs : List Change) → ((x : Change) → r x ≡ (q x && p x)) →
    last_where p (filter q xs) ≡ last_where r xs
last p q r [] same = refl
last p q r (x ∷ xs) same =
    last-by p q r x xs (q x) (p x) refl (last p q r xs same)
    ∙ ap (λ t. option_or (last_where r xs) (cond t (Some x) None)) (sym (same x))

-- ---- the later of two starts

max-le : (a b t : ℕ) → a ≤ t → b ≤ t → max a b ≤ t
max-le a b t low high = omega arith

starts-by : (a b t : ℕ) (x y : Bool) → nat_le a t ≡ x → nat_le b t ≡ y → nat_le (max a b) t ≡ (y && x)
starts-by a b t true true low high = le-leb (max a b) t (max-le a b t (leb-true a t low) (leb-true b t high))
starts-by a b t false true low high = over (nat_le (max a b) t) refl
  where
    over : (z : Bool) → nat_le (max a b) t ≡ z → z ≡ false
    over true is = sym (le-leb a t (omega (arith, leb-true (max a b) t is, le-max_left a b))) ∙ low
    over false is = refl
starts-by a b t x false low high = over (nat_le (max a b) t) refl
  where
    over : (z : Bool) → nat_le (max a b) t ≡ z → z ≡ false
    over true is = sym (le-leb b t (omega (arith, leb-true (max a b) t is, le-max_right a b))) ∙ high
    over false is = refl

starts : (a b t : ℕ) → nat_le (max a b) t ≡ (nat_le b t && nat_le a t)
starts a b t = starts-by a b t (nat_le a t) (nat_le b t) refl refl

-- ---- the windows

same-of : (o f b : Bool) → (o && (f && b)) ≡ (f && (o && b))
same-of true f b = refl
same-of false true b = refl
same-of false false b = refl

pub last_from : (cs : List Change) (e : Entity) (k : List ℕ) (from before : ℕ) →
    last_change (filter (λ c. nat_le from c.tx) cs) e k before ≡ hot_change cs e k from before
unfolding last_change hot_change is_of_before is_of_within
last_from cs e k from before =
    last (λ c. is_of e k c && nat_lt c.tx before) (λ c. nat_le from c.tx)
    (λ c. is_of e k c && (nat_le from c.tx && nat_lt c.tx before)) cs
    (λ c. same-of (is_of e k c) (nat_le from c.tx) (nat_lt c.tx before))

later-of : (o m f a b : Bool) → m ≡ (f && a) → (o && (m && b)) ≡ (f && (o && (a && b)))
later-of o m true a b is = ap (λ t. o && (t && b)) is
later-of true m false a b is = ap (λ t. t && b) is
later-of false m false a b is = refl

pub times_from : (cs : List Change) (e : Entity) (k : List ℕ) (from a b : ℕ) →
    times (filter (λ c. nat_le from c.tx) cs) e k a b ≡ times cs e k (max a from) b
unfolding times is_of_within
times_from cs e k from a b =
    ap (map (λ c. c.tx))
    (both (λ c. is_of e k c && (nat_le a c.tx && nat_lt c.tx b)) (λ c. nat_le from c.tx)
    (λ c. is_of e k c && (nat_le (max a from) c.tx && nat_lt c.tx b)) cs
    (λ c. later-of (is_of e k c) (nat_le (max a from) c.tx) (nat_le from c.tx) (nat_le a c.tx) (nat_lt c.tx b)
    (starts a from c.tx)))

pub window_times_from : (back : Bool) (cs : List Change) (e : Entity) (k : List ℕ) (from a b : ℕ) →
    window_times back (filter (λ c. nat_le from c.tx) cs) e k a b ≡ window_times back cs e k (max a from) b
window_times_from true cs e k from a b = ap reverse (times_from cs e k from a b)
window_times_from false cs e k from a b = times_from cs e k from a b

key-of : (o m f a b n : Bool) → m ≡ (f && a) → ((o && (m && b)) && n) ≡ (f && ((o && (a && b)) && n))
key-of o m true a b n is = ap (λ t. (o && (t && b)) && n) is
key-of true m false a b n is = ap (λ t. (t && b) && n) is
key-of false m false a b n is = refl

pub window_keys_from : (cs : List Change) (e : Entity) (first : List ℕ) (from a b : ℕ) →
    window_keys (filter (λ c. nat_le from c.tx) cs) e first a b ≡ window_keys cs e first (max a from) b
unfolding is_in_window is_within
window_keys_from cs e first from a b =
    ap keys_of
    (both (λ c. ((entity_number c.entity == entity_number e) && (nat_le a c.tx && nat_lt c.tx b)) && not (is_lt (slice_cmp nat_cmp c.key first)))
    (λ c. nat_le from c.tx)
    (λ c. ((entity_number c.entity == entity_number e) && (nat_le (max a from) c.tx && nat_lt c.tx b)) && not (is_lt (slice_cmp nat_cmp c.key first))) cs
    (λ c. key-of (entity_number c.entity == entity_number e) (nat_le (max a from) c.tx) (nat_le from c.tx) (nat_le a c.tx)
    (nat_lt c.tx b) (not (is_lt (slice_cmp nat_cmp c.key first))) (starts a from c.tx)))

-- ---- what a window tells, where the keeper tells its rows

pub act_told : (told : Option Held) (epoch from : ℕ) (e : Entity) (k : List ℕ) (before : ℕ) (act : Option Act) →
    IfSome told (λ h. act ≡ act_of_change (hot_change (changes_seen epoch h.rows) e k from before)) →
    IfSome (option_map (seen_from epoch from) told) (λ cs. act ≡ act_of_change (last_change cs e k before))
act_told None epoch from e k before act is = tt
act_told (Some h) epoch from e k before act is =
    is ∙ ap act_of_change (sym (last_from (changes_seen epoch h.rows) e k from before))

pub numbers_told : (told : Option Held) (epoch from : ℕ) (back : Bool) (e : Entity) (k : List ℕ) (a b m limit : ℕ) (numbers : List ℕ) →
    m ≡ max a from →
    IfSome told (λ h. numbers ≡ take limit (window_times back (changes_seen epoch h.rows) e k m b)) →
    IfSome (option_map (seen_from epoch from) told) (λ cs. numbers ≡ take limit (window_times back cs e k a b))
numbers_told None epoch from back e k a b m limit numbers is_m is = tt
numbers_told (Some h) epoch from back e k a b m limit numbers is_m is =
    is ∙ ap (take limit) (ap (λ n. window_times back (changes_seen epoch h.rows) e k n b) is_m
    ∙ sym (window_times_from back (changes_seen epoch h.rows) e k from a b))

pub keys_told : (told : Option Held) (epoch from : ℕ) (e : Entity) (first : List ℕ) (a b m limit : ℕ) (keys : List (List ℕ)) →
    m ≡ max a from →
    IfSome told (λ h. keys ≡ take limit (window_keys (changes_seen epoch h.rows) e first m b)) →
    IfSome (option_map (seen_from epoch from) told) (λ cs. keys ≡ take limit (window_keys cs e first a b))
keys_told None epoch from e first a b m limit keys is_m is = tt
keys_told (Some h) epoch from e first a b m limit keys is_m is =
    is ∙ ap (take limit) (ap (λ n. window_keys (changes_seen epoch h.rows) e first n b) is_m
    ∙ sym (window_keys_from (changes_seen epoch h.rows) e first from a b))
