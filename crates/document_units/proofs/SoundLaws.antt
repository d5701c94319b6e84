-- Units stay sound as they are listed.
use Rattle.std.proofs.Common.{◌≡◌, ◌<◌, ◌≤◌, ℕ, ◌⊎◌, inl, inr, List, [], ◌∷◌, ◌++◌, length, slice_get, Some, sym, ap, subst, ◌∙◌, arith}
use Rattle.std.proofs.lemmas.List.{length_push}
use Rattle.syntax_tree.proofs.Places.{push_cases}
use Rattle.unit_sources.specs.UnitsRead.{forms_of}
use Rattle.unit_sources.specs.declared.units.UnitSource.{UnitSource}
use Rattle.read_documents.specs.declared.heads.Head.{Head}
use Rattle.document_units.specs.declared.listing.Units.{Units}
use Rattle.read_documents.specs.Places.{AreHeadsIn}
use Rattle.read_documents.specs.WereRead.{WereRead, AreSourcesRead}
use Rattle.document_units.specs.Sound.{IsSound}

heads_more : (count : ℕ) (hs : List Head) (h : Head) → AreHeadsIn count hs → h.document < count → AreHeadsIn count (hs ++ h ∷ [])
heads_more count hs h are here = λ n g at. go n g (push_cases hs h n g at)
  where
    go : (n : ℕ) (g : Head) → (slice_get hs n ≡ Some g) ⊎ ((n ≡ length hs) × (g ≡ h)) → g.document < count
    go n g (inl k) = are n g k
    go n g (inr k) = let same : g.document ≡ h.document = ap (λ (x : Head). x.document) k.1 in omega arith

sources_more : (ss : List UnitSource) (s : UnitSource) → AreSourcesRead ss → WereRead (forms_of s.forms) → AreSourcesRead (ss ++ s ∷ [])
sources_more [] s h k = (k, tt)
sources_more (t ∷ ss) s h k = (h.0, sources_more ss s h.1 k)

-- one more unit
pub sound_more : (count : ℕ) (u v : Units) (h : Head) (s : UnitSource) → IsSound count u → length u.heads.items < 0xFFFF_FFFF → h.document < count → WereRead (forms_of s.forms) →
    v.heads.items ≡ u.heads.items ++ h ∷ [] → v.sources.items ≡ u.sources.items ++ s ∷ [] → IsSound count v
sound_more count u v h s is few here read hs ss = record {
  heads = subst (λ (xs : List Head). AreHeadsIn count xs) (sym hs) (heads_more count u.heads.items h is.heads here);
  sources = omega (arith, is.sources, ap length hs, ap length ss, length_push u.heads.items h, length_push u.sources.items s);
  few = omega (arith, ap length hs, length_push u.heads.items h);
  read = subst AreSourcesRead (sym ss) (sources_more u.sources.items s is.read read);
}

-- and more documents
pub sound_in : (count more : ℕ) (u : Units) → count ≤ more → IsSound count u → IsSound more u
sound_in count more u le is = record {
  heads = λ n h at. (let below : h.document < count = is.heads n h at in omega arith);
  sources = is.sources;
  few = is.few;
  read = is.read;
}

pub sound_none : (u : Units) → u.heads.items ≡ [] → u.sources.items ≡ [] → IsSound 0 u
sound_none u hs ss = record {
  heads = subst (λ (xs : List Head). AreHeadsIn 0 xs) (sym hs) (λ n h at. absurd cc);
  sources = ap length ss ∙ sym (ap length hs);
  few = omega (arith, ap length hs);
  read = subst AreSourcesRead (sym ss) tt;
}
