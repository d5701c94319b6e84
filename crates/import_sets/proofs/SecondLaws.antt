-- The second identifiers of the pairs that a set of the code renames by are those of the set that it stands for.
use Rattle.std.proofs.Common.{◌≡◌, ℕ, ◌+◌, ◌<◌, List, [], ◌∷◌, ◌++◌, cond, map, length, take, get_or, Option, Some, None, refl, sym, ap, ◌∙◌}
use Rattle.std.specs.Prelude.{option_to_list}
use Rattle.std.specs.List.{flat_map}
use Rattle.std.proofs.lemmas.Grind.{flat_map-append}
use Rattle.std.proofs.lemmas.List.{take_more, flat_map_more}
use Rattle.scheme_model.specs.declared.Occ.{Occ}
use Rattle.scheme_model.specs.ExpansionFaults.{Named}
use Rattle.scheme_model.specs.Entries.{ImportSet}
use Rattle.scheme_model.specs.ProgramArrows.{places_at}
use Rattle.scheme_model.specs.Spelling.{second_names, second_places}
use Rattle.import_sets.specs.declared.set.NamePair.{NamePair}
use Rattle.import_sets.specs.declared.set.ImportSet as code
use Rattle.import_sets.specs.Given as given
use Rattle.import_sets.specs.Seconds.{pair_seconds, seconds}
use Rattle.import_sets.specs.Sets.{paired, IsSet}
use Rattle.import_sets.proofs.SetLaws.{bad_same}

abbrev places_of : List (Named (List ℕ)) → List Occ
places_of ns = flat_map (λ (n : Named (List ℕ)). places_at n.occ) ns

abbrev places_in : ImportSet → List Occ
places_in s = places_of (second_names s)

place_same : (o : Option Occ) → option_to_list o ≡ places_at o
place_same None = refl
place_same (Some o) = refl

pairs_same : (ps : List NamePair) → pair_seconds ps ≡ places_of (map (λ (p : Named (List ℕ) × Named (List ℕ)). p.1) (map paired ps))
pairs_same [] = refl
pairs_same (p ∷ ps) = λ j. place_same p.to.occ j ++ pairs_same ps j

seconds_same : (c : code.ImportSet) (s : ImportSet) → IsSet c s → seconds c ≡ places_in s
seconds_same (code.Library t) s h = ap places_in (sym h.1.0)
seconds_same (code.Only' p c ns) s h = seconds_same c h.0 h.1.1 ∙ ap places_in (sym h.1.0)
seconds_same (code.Except' p c ns) s h = seconds_same c h.0 h.1.1 ∙ ap places_in (sym h.1.0)
seconds_same (code.Prefix' p c t) s h = seconds_same c h.0 h.1.1 ∙ ap places_in (sym h.1.0)
seconds_same (code.Rename' p c ps) s h =
    (λ j. seconds_same c h.0 h.1.1 j ++ pairs_same ps j)
    ∙ sym (flat_map-append (λ (n : Named (List ℕ)). places_at n.occ) (second_names h.0) (map (λ (p : Named (List ℕ) × Named (List ℕ)). p.1) (map paired ps))) ∙ ap places_in (sym h.1.0)
seconds_same code.Bad s h = ap places_in (sym h)

-- none where the set has no shape
pub second_places_same : (c : code.ImportSet) (s : ImportSet) → IsSet c s → cond (given.has_bad c) [] (seconds c) ≡ second_places s
second_places_same c s h = λ j. cond (bad_same c s h j) [] (seconds_same c s h j)

-- ---- pair by pair

pub pairs_more : (old places new : List Occ) (ps : List NamePair) (i : ℕ) (p : NamePair) → i < length ps → p ≡ get_or ps i p → places ≡ old ++ pair_seconds (take i ps) → new ≡ places ++ option_to_list p.to.occ →
    new ≡ old ++ pair_seconds (take (i + 1) ps)
pairs_more old places new ps i p lt is before e =
    e ∙ ap (λ (x : List Occ). x ++ option_to_list p.to.occ) before ∙ flat_map_more (λ (p : NamePair). option_to_list p.to.occ) old (take i ps) p
    ∙ ap (λ (x : NamePair). old ++ pair_seconds (take i ps ++ x ∷ [])) is ∙ ap (λ (x : List NamePair). old ++ pair_seconds x) (sym (take_more ps i p lt))
