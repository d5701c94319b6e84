-- The second identifiers of the pairs of import sets, one set more at a time.
use Rattle.std.proofs.Common.{◌≡◌, ℕ, zero, suc, ◌+◌, List, [], ◌∷◌, ◌++◌, append-nil, append_assoc, take, slice_get, Some, sym, ap, ◌∙◌, add-one}
use Rattle.std.specs.List.{flat_map}
use Rattle.std.proofs.lemmas.Option.{same_Some}
use Rattle.scheme_model.specs.declared.Occ.{Occ}
use Rattle.scheme_model.specs.Program.{ImportSpec}
use Rattle.scheme_model.specs.Spelling.{second_places}

abbrev pub all_seconds : List ImportSpec → List Occ
all_seconds ss = flat_map (λ (s : ImportSpec). second_places s.set) ss

seconds_from : (ss : List ImportSpec) (i : ℕ) (s : ImportSpec) → slice_get ss i ≡ Some s → all_seconds (take (suc i) ss) ≡ all_seconds (take i ss) ++ second_places s.set
seconds_from [] i s h = absurd cc
seconds_from (x ∷ ss) zero s h = append-nil (second_places x.set) ∙ ap (λ (y : ImportSpec). second_places y.set) (same_Some x s h)
seconds_from (x ∷ ss) (suc i) s h = ap (λ (os : List Occ). second_places x.set ++ os) (seconds_from ss i s h) ∙ sym (append_assoc (second_places x.set) (all_seconds (take i ss)) (second_places s.set))

pub seconds_more : (ss : List ImportSpec) (i : ℕ) (s : ImportSpec) → slice_get ss i ≡ Some s → all_seconds (take (i + 1) ss) ≡ all_seconds (take i ss) ++ second_places s.set
seconds_more ss i s h = ap (λ (n : ℕ). all_seconds (take n ss)) (add-one i) ∙ seconds_from ss i s h
