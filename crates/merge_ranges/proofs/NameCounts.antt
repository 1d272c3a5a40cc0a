-- How many names there are over ranges.
use Rattle.std.specs.Prelude.{◌≡◌, ◌*◌, true, false, ◌||◌, List, [], ◌∷◌, filter, map, length, refl}
use Rattle.std.proofs.Common.{arith, ◌∙◌, ap, length-append}
use Rattle.agg_model.specs.Entity.{is_domain_entity}
use Rattle.agg_model.specs.declared.entity.Entity.{Entity}
use Rattle.agg_model.specs.declared.entity.Entity.TheVariants.{Accounts, Storage, Code, LogAddrs, LogTopics, TracesFrom, TracesTo}
use Rattle.agg_model.specs.declared.entity.Range.{Range}
use Rattle.agg_model.specs.declared.entity.FileKind.{FileKind}
use Rattle.merge_ranges.specs.declared.name.FileName.{FileName}
use Rattle.merge_ranges.specs.Kind.{is_index_kind}
use Rattle.merge_ranges.specs.Name.{has_kind}
use Rattle.merge_ranges.specs.CanonicalNames.{kinds, group_names, entity_names, names_of, names_over}

long : (e : Entity) (r : Range) (ks : List FileKind) → length (map (λ k. let n : FileName = record { entity = e; range = r; kind = k } in n) ks) ≡ length ks
long e r [] = refl
long e r (k ∷ ks) = omega (arith, long e r ks)

length-entity_names : (e : Entity) (rs : List Range) → length (entity_names e rs) ≡ length rs * length (filter (has_kind e) kinds)
length-entity_names e [] = omega arith
length-entity_names e (r ∷ rs) =
    omega (
      arith,
      length-append (group_names e r) (entity_names e rs),
      long e r (filter (has_kind e) kinds),
      length-entity_names e rs,
    )

kinds_of_domain : (e : Entity) → is_domain_entity e ≡ true → length (filter (has_kind e) kinds) ≡ 7
unfolding has_kind
kinds_of_domain e h = ap (λ t. length (filter (λ k. t || is_index_kind k) kinds)) h

kinds_of_index : (e : Entity) → is_domain_entity e ≡ false → length (filter (has_kind e) kinds) ≡ 2
unfolding has_kind is_index_kind
kinds_of_index e h = ap (λ t. length (filter (λ k. t || is_index_kind k) kinds)) h

domain_names : (e : Entity) (rs : List Range) → is_domain_entity e ≡ true → length (entity_names e rs) ≡ length rs * 7
domain_names e rs h = length-entity_names e rs ∙ ap (λ n. length rs * n) (kinds_of_domain e h)

index_names : (e : Entity) (rs : List Range) → is_domain_entity e ≡ false → length (entity_names e rs) ≡ length rs * 2
index_names e rs h = length-entity_names e rs ∙ ap (λ n. length rs * n) (kinds_of_index e h)

-- over each range there are 29 files
pub length-names_over : (rs : List Range) → length (names_over rs) ≡ 29 * length rs
unfolding is_domain_entity
length-names_over rs =
    let n = λ (es : List Entity). names_of es rs in
    omega (
      arith,
      length-append (entity_names Accounts rs) (n (Storage ∷ Code ∷ LogAddrs ∷ LogTopics ∷ TracesFrom ∷ TracesTo ∷ [])),
      length-append (entity_names Storage rs) (n (Code ∷ LogAddrs ∷ LogTopics ∷ TracesFrom ∷ TracesTo ∷ [])),
      length-append (entity_names Code rs) (n (LogAddrs ∷ LogTopics ∷ TracesFrom ∷ TracesTo ∷ [])),
      length-append (entity_names LogAddrs rs) (n (LogTopics ∷ TracesFrom ∷ TracesTo ∷ [])),
      length-append (entity_names LogTopics rs) (n (TracesFrom ∷ TracesTo ∷ [])),
      length-append (entity_names TracesFrom rs) (n (TracesTo ∷ [])),
      length-append (entity_names TracesTo rs) [],
      domain_names Accounts rs refl,
      domain_names Storage rs refl,
      domain_names Code rs refl,
      index_names LogAddrs rs refl,
      index_names LogTopics rs refl,
      index_names TracesFrom rs refl,
      index_names TracesTo rs refl,
    )
