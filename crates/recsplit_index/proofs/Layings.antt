-- What is held of an accessor.
use Rattle.std.proofs.Common.{◌≡◌, ℕ, List, refl, sym, subst}
use Rattle.bit_store.specs.Bits.{text_of}
use Rattle.bit_store.proofs.Texts.{bits_of-text_of}
use Rattle.recsplit_index.specs.declared.layout.Layout.{Layout}
use Rattle.recsplit_index.specs.declared.layout.Shape.{Shape}
use Rattle.recsplit_index.specs.Spelling.{Index, laid_out, spelling, index_in, IsSpelled, IsHeld}
use Rattle.recsplit_index.specs.Layout.{IsLayoutOf, IsShapeOf}
use Rattle.recsplit_index.proofs.Layouts.{seen}

pub laid_same : (l : Layout) (x : Index) → IsLayoutOf l x → laid_out l.form l.salt l.starts.items l.offsets.items l.text ≡ spelling x
laid_same l x h = rw (h.form_is, h.salt_is, h.starts_are, h.offsets_are, h.text_is) refl

pub shape_seen : (s : Shape) (x : Index) (bytes : List ℕ) → IsShapeOf s x → bytes ≡ spelling x → index_in s.form s.salt s.starts s.count s.bits bytes ≡ x
shape_seen s x bytes h is =
    rw (h.form_is, h.salt_is, h.starts_is, h.count_is, h.bits_is) (seen x.form x.salt x.starts x.offsets (text_of x.bits) x.bits bytes h.starts_fit h.offsets_fit (bits_of-text_of x.bits) is)

pub shape_held : (s : Shape) (x : Index) (bytes : List ℕ) → IsShapeOf s x → bytes ≡ spelling x → IsHeld s.form s.salt s.starts s.count s.bits bytes
shape_held s x bytes h is =
    let spelled : IsSpelled x s.form s.salt s.starts s.count s.bits bytes = record {
      form_is = h.form_is;
      salt_is = h.salt_is;
      starts_is = h.starts_is;
      count_is = h.count_is;
      bits_is = h.bits_is;
      starts_fit = h.starts_fit;
      offsets_fit = h.offsets_fit;
      spelled = is;
    }
    in
    subst (λ (y : Index). IsSpelled y s.form s.salt s.starts s.count s.bits bytes) (sym (shape_seen s x bytes h is)) spelled
