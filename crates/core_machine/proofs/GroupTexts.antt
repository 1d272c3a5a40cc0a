-- Which texts are names of groups over cuts.
use Rattle.std.proofs.Common.{◌≡◌, ◌⊎◌, inl, inr, ◌||◌, Bool, true, false, List, [], ◌∷◌, ℕ, filter, refl, sym, ◌∙◌, ap, subst}
use Rattle.std.proofs.lemmas.Bool.{false≢true}
use Rattle.std.specs.Ordering.{nat_cmp}
use Rattle.std.specs.Cmp.Lexicographic.{slice_cmp}
use Rattle.std.specs.BTreeMap.{is_at}
use Rattle.agg_model.specs.declared.entity.Entity.{Entity}
use Rattle.agg_model.specs.declared.entity.Entity.TheVariants.{Accounts, Storage, Code, LogAddrs, LogTopics, TracesFrom, TracesTo}
use Rattle.agg_model.specs.declared.entity.Range.{Range}
use Rattle.agg_model.specs.declared.entity.FileKind.{FileKind}
use Rattle.agg_model.specs.declared.entity.FileKind.TheVariants.{Kv, Bt, Kvi, V, Vi, Ef, Efi}
use Rattle.merge_ranges.specs.declared.name.FileName.{FileName}
use Rattle.merge_ranges.specs.Name.{has_kind, spelled}
use Rattle.merge_ranges.specs.CanonicalNames.{entities, kinds, group_names, entity_names}
use Rattle.core_machine.specs.Texts.{has, texts_of}
use Rattle.core_machine.specs.Sound.{names_by_cut}
use Rattle.core_machine.proofs.Inside.{In, in-left, in-right, in-split, in-map, from-map, in-filter, from-filter}
use Rattle.core_machine.proofs.TextLaws.{same_text, itself}

abbrev pub named : Entity → Range → FileKind → FileName
named e r k = record { entity = e; range = r; kind = k }

in-kinds : (k : FileKind) → In k kinds
in-kinds Kv = inl refl
in-kinds Bt = inr (inl refl)
in-kinds Kvi = inr (inr (inl refl))
in-kinds V = inr (inr (inr (inl refl)))
in-kinds Vi = inr (inr (inr (inr (inl refl))))
in-kinds Ef = inr (inr (inr (inr (inr (inl refl)))))
in-kinds Efi = inr (inr (inr (inr (inr (inr (inl refl))))))

pub in-entities : (e : Entity) → In e entities
in-entities Accounts = inl refl
in-entities Storage = inr (inl refl)
in-entities Code = inr (inr (inl refl))
in-entities LogAddrs = inr (inr (inr (inl refl)))
in-entities LogTopics = inr (inr (inr (inr (inl refl))))
in-entities TracesFrom = inr (inr (inr (inr (inr (inl refl)))))
in-entities TracesTo = inr (inr (inr (inr (inr (inr (inl refl))))))

-- the name is one of the entity's, over one of these ranges
pub record IsOver (e : Entity) (rs : List Range) (n : FileName) : Type 0 where
  pub range : Range
  pub kind : FileKind
  pub inside : In range rs
  pub fits : has_kind e kind ≡ true
  pub is : n ≡ named e range kind

pub in-entity_names : (e : Entity) (r : Range) (k : FileKind) (rs : List Range) → In r rs → has_kind e k ≡ true → In (named e r k) (entity_names e rs)
in-entity_names e r k [] h fits = absurd h
in-entity_names e r k (q ∷ rs) (inl same) fits =
    in-left (named e r k) (group_names e q) (entity_names e rs)
    (subst (λ x. In (named e r k) (group_names e x)) same (in-map (named e r) k (filter (has_kind e) kinds) (in-filter (has_kind e) k kinds (in-kinds k) fits)))
in-entity_names e r k (q ∷ rs) (inr h) fits = in-right (named e r k) (group_names e q) (entity_names e rs) (in-entity_names e r k rs h fits)

pub from-entity_names : (e : Entity) (n : FileName) (rs : List Range) → In n (entity_names e rs) → IsOver e rs n
from-entity_names e n [] h = absurd h
from-entity_names e n (q ∷ rs) h = parts (in-split n (group_names e q) (entity_names e rs) h) (λ g. from-entity_names e n rs g)
  where
    parts : In n (group_names e q) ⊎ In n (entity_names e rs) → (In n (entity_names e rs) → IsOver e rs n) → IsOver e (q ∷ rs) n
    parts (inl g) rest =
        let m = from-map (named e q) n (filter (has_kind e) kinds) g in
        record { range = q; kind = m.from; inside = inl refl; fits = from-filter (has_kind e) m.from kinds m.inside; is = m.is }
    parts (inr g) rest =
        let o = rest g in
        record { range = o.range; kind = o.kind; inside = inr o.inside; fits = o.fits; is = o.is }

-- the text is the name of a file over these cuts
pub record IsGroupText (cuts : Entity → List Range) (text : List ℕ) : Type 0 where
  pub entity : Entity
  pub range : Range
  pub kind : FileKind
  pub inside : In range (cuts entity)
  pub fits : has_kind entity kind ≡ true
  pub is : text ≡ spelled (named entity range kind)

in-names_by_cut : (es : List Entity) (cuts : Entity → List Range) (e : Entity) (r : Range) (k : FileKind) → In e es → In r (cuts e) → has_kind e k ≡ true → In (named e r k) (names_by_cut es cuts)
in-names_by_cut [] cuts e r k there h fits = absurd there
in-names_by_cut (f ∷ es) cuts e r k (inl same) h fits =
    in-left (named e r k) (entity_names f (cuts f)) (names_by_cut es cuts)
    (subst (λ x. In (named e r k) (entity_names x (cuts x))) same (in-entity_names e r k (cuts e) h fits))
in-names_by_cut (f ∷ es) cuts e r k (inr there) h fits =
    in-right (named e r k) (entity_names f (cuts f)) (names_by_cut es cuts) (in-names_by_cut es cuts e r k there h fits)

pub record IsByCut (cuts : Entity → List Range) (n : FileName) : Type 0 where
  pub entity : Entity
  pub over : IsOver entity (cuts entity) n

from-names_by_cut : (es : List Entity) (cuts : Entity → List Range) (n : FileName) → In n (names_by_cut es cuts) → IsByCut cuts n
from-names_by_cut [] cuts n h = absurd h
from-names_by_cut (f ∷ es) cuts n h = parts (in-split n (entity_names f (cuts f)) (names_by_cut es cuts) h) (λ g. from-names_by_cut es cuts n g)
  where
    parts : In n (entity_names f (cuts f)) ⊎ In n (names_by_cut es cuts) → (In n (names_by_cut es cuts) → IsByCut cuts n) → IsByCut cuts n
    parts (inl g) rest = record { entity = f; over = from-entity_names f n (cuts f) g }
    parts (inr g) rest = rest g

-- ---- texts

pub has-in : (ns : List FileName) (n : FileName) → In n ns → has (texts_of ns) (spelled n) ≡ true
has-in [] n h = absurd h
has-in (m ∷ ns) n (inl e) =
    ap (λ b. b || has (texts_of ns) (spelled n)) (ap (λ x. is_at (slice_cmp nat_cmp (spelled n)) (spelled x)) (sym e) ∙ itself (spelled n))
has-in (m ∷ ns) n (inr h) = ap (λ b. is_at (slice_cmp nat_cmp (spelled n)) (spelled m) || b) (has-in ns n h) ∙ or-true (is_at (slice_cmp nat_cmp (spelled n)) (spelled m))
  where
    or-true : (a : Bool) → (a || true) ≡ true
    or-true true = refl
    or-true false = refl

pub record IsSpelled (ns : List FileName) (text : List ℕ) : Type 0 where
  pub name : FileName
  pub inside : In name ns
  pub is : text ≡ spelled name

or-split : (a b : Bool) → (a || b) ≡ true → (a ≡ true) ⊎ (b ≡ true)
or-split true b h = inl refl
or-split false b h = inr h

pub from-has : (ns : List FileName) (text : List ℕ) → has (texts_of ns) text ≡ true → IsSpelled ns text
from-has [] text h = absurd (false≢true h)
from-has (n ∷ ns) text h = parts (or-split (is_at (slice_cmp nat_cmp text) (spelled n)) (has (texts_of ns) text) h) (λ g. from-has ns text g)
  where
    parts : (is_at (slice_cmp nat_cmp text) (spelled n) ≡ true) ⊎ (has (texts_of ns) text ≡ true) → (has (texts_of ns) text ≡ true → IsSpelled ns text) → IsSpelled (n ∷ ns) text
    parts (inl e) rest = record { name = n; inside = inl refl; is = same_text text (spelled n) e }
    parts (inr g) rest =
        let o = rest g in
        record { name = o.name; inside = inr o.inside; is = o.is }

pub has-group : (cuts : Entity → List Range) (text : List ℕ) → IsGroupText cuts text → has (texts_of (names_by_cut entities cuts)) text ≡ true
has-group cuts text g =
    subst (λ t. has (texts_of (names_by_cut entities cuts)) t ≡ true) (sym g.is)
    (has-in (names_by_cut entities cuts) (named g.entity g.range g.kind) (in-names_by_cut entities cuts g.entity g.range g.kind (in-entities g.entity) g.inside g.fits))

pub from-group : (cuts : Entity → List Range) (text : List ℕ) → has (texts_of (names_by_cut entities cuts)) text ≡ true → IsGroupText cuts text
from-group cuts text h =
    let s = from-has (names_by_cut entities cuts) text h in
    let b = from-names_by_cut entities cuts s.name s.inside in
    record {
      entity = b.entity;
      range = b.over.range;
      kind = b.over.kind;
      inside = b.over.inside;
      fits = b.over.fits;
      is = s.is ∙ ap spelled b.over.is;
    }
