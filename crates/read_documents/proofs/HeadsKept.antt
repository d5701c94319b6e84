-- Heads that stay are those of the same units.
use Rattle.std.proofs.Common.{◌≡◌, ℕ, suc, List, [], ◌∷◌, length, refl, sym, ap, ◌∙◌, subst, arith}
use Rattle.scheme_model.specs.Program.{UnitResult}
use Rattle.read_documents.specs.declared.heads.Head.{Head}
use Rattle.read_documents.specs.Places.{IsHead, AreHeads, HeadsStay, SameHead}
use Rattle.read_documents.specs.Readings.{Read, span_seen}

head_kept : (rs : List Read) (k : ℕ) (h g : Head) (r : UnitResult) → SameHead h g → IsHead rs k h r → IsHead rs k g r
head_kept rs k h g r same is = record {
  number = is.number;
  document = same.document ∙ is.document;
  span = ap span_seen same.span ∙ is.span;
  firsts = ap (λ fs. fs.items) same.firsts ∙ is.firsts;
  homes = ap (λ hs. hs.items) same.homes ∙ is.homes;
  names = ap (λ ns. ns.items) same.names ∙ is.names;
  ranges = ap (λ rs. rs.items) same.ranges ∙ is.ranges;
}

first_stays : (h g : Head) (hs gs : List Head) → HeadsStay (h ∷ hs) (g ∷ gs) → SameHead h g
first_stays h g hs gs stay =
    let q = stay.each 0 g refl in
    let same : h ≡ q.0 = cc (q.1.0) in
    subst (λ (x : Head). SameHead x g) (sym same) q.1.1

others_stay : (h g : Head) (hs gs : List Head) → HeadsStay (h ∷ hs) (g ∷ gs) → HeadsStay hs gs
others_stay h g hs gs stay = record { size = let e = stay.size in omega arith; each = λ n y at. stay.each (suc n) y at }

pub heads_kept : (rs : List Read) (k : ℕ) (hs gs : List Head) (us : List UnitResult) → HeadsStay hs gs → AreHeads rs k hs us → AreHeads rs k gs us
heads_kept rs k [] [] us stay are = are
heads_kept rs k [] (g ∷ gs) us stay are = absurd (let e = stay.size in omega arith)
heads_kept rs k (h ∷ hs) [] us stay are = absurd (let e = stay.size in omega arith)
heads_kept rs k (h ∷ hs) (g ∷ gs) [] stay are = are
heads_kept rs k (h ∷ hs) (g ∷ gs) (r ∷ us) stay are = (head_kept rs k h g r (first_stays h g hs gs stay) are.0, heads_kept rs (suc k) hs gs us (others_stay h g hs gs stay) are.1)

pub as_many_heads : (rs : List Read) (k : ℕ) (hs : List Head) (us : List UnitResult) → AreHeads rs k hs us → length hs ≡ length us
as_many_heads rs k [] [] are = refl
as_many_heads rs k [] (r ∷ us) are = absurd are
as_many_heads rs k (h ∷ hs) [] are = absurd are
as_many_heads rs k (h ∷ hs) (r ∷ us) are = ap suc (as_many_heads rs (suc k) hs us are.1)
