-- The edits of documents one by one: what is made of those gone through, and what is left.
use Rattle.std.proofs.Common.{◌≡◌, ℕ, zero, suc, ◌+◌, ◌<◌, ◌≤◌, arith, List, [], ◌∷◌, ◌++◌, map, take, drop, get_or, length, cond, Option, Some, refl, sym, ap, ◌∙◌, subst, append_assoc}
use Rattle.std.specs.Prelude.{nat_lt}
use Rattle.std.proofs.lemmas.List.{map-append}
use Rattle.ls_base.specs.Limits.{max_text}
use Rattle.ls_base.specs.declared.encoding.Encoding.{Encoding}
use Rattle.scheme_model.specs.declared.Occ.{Occ}
use Rattle.scheme_model.specs.Diagnostics.{spans_at}
use Rattle.scheme_model.specs.Program.{UnitResult}
use Rattle.scheme_model.specs.Spelling.{Link}
use Rattle.document_store.specs.Texts.{Document}
use Rattle.read_documents.specs.Places.{spans_of}
use Rattle.read_documents.specs.Readings.{AreReadAs, Read, spans_in}
use Rattle.program_answers.specs.ToldAnswers.{document_at, text_of}
use Rattle.text_edits.specs.Edits.{Edit, edited}
use Rattle.text_edits.specs.Members.{identifiers_of, members_of, name_at, name_of}
use Rattle.text_edits.specs.NewNames.{edits_of}
use Rattle.text_edits.specs.Views.{CanEdit, edit_of, edit_told}
use Rattle.text_edits.specs.declared.edits.Edit as code
use Rattle.class_edits.specs.DocumentEdits as told
use Rattle.class_edits.specs.DocumentEdits.{CanEditAll, all_edited, edits_from, seen, told_of, too_long}
use Rattle.class_edits.specs.Named.{edits_by}

-- ---- made one by one

next_edits : (name : Occ → Option (List ℕ)) (us : List UnitResult) (n i : ℕ) (ds : List (List ℕ × Document)) (rs : List Read) → AreReadAs ds rs → i < length ds →
    edits_by name us n (drop i ds) (drop i rs) ≡ edits_of (name_at name (identifiers_of n us)) (text_of ds i) (spans_at (spans_of rs) i) ∷ edits_by name us (suc n) (drop (suc i) ds) (drop (suc i) rs)
next_edits name us n i [] rs are lt = absurd (omega (arith, lt))
next_edits name us n i (d ∷ ds) [] are lt = absurd are
next_edits name us n zero (d ∷ ds) (r ∷ rs) are lt = refl
next_edits name us n (suc i) (d ∷ ds) (r ∷ rs) are lt = next_edits name us n i ds rs are.1 (omega (arith, lt))

pub no_edits : (name : Occ → Option (List ℕ)) (us : List UnitResult) (n i : ℕ) (ds : List (List ℕ × Document)) (rs : List Read) → length ds ≤ i → edits_by name us n (drop i ds) (drop i rs) ≡ []
no_edits name us n i ds rs le = ap (λ (es : List (List ℕ × Document)). edits_by name us n es (drop i rs)) (gone i ds le)
  where
    gone : (i : ℕ) (ds : List (List ℕ × Document)) → length ds ≤ i → drop i ds ≡ []
    gone zero [] le = refl
    gone (suc i) [] le = refl
    gone zero (d ∷ ds) le = absurd (omega (arith, le))
    gone (suc i) (d ∷ ds) le = gone i ds (omega (arith, le))

-- those of one more document
pub made_more : (name : Occ → Option (List ℕ)) (us : List UnitResult) (i : ℕ) (ds : List (List ℕ × Document)) (rs : List Read) (all : List (List Edit)) (old new : List (List code.Edit)) (es : List code.Edit) → AreReadAs ds rs → i < length ds →
    seen old ++ edits_by name us i (drop i ds) (drop i rs) ≡ all → new ≡ old ++ es ∷ [] →
    map edit_of es ≡ edits_of (name_at name (identifiers_of i us)) (text_of ds i) (spans_at (spans_of rs) i) → seen new ++ edits_by name us (i + 1) (drop (i + 1) ds) (drop (i + 1) rs) ≡ all
made_more name us i ds rs all old new es are lt was is e =
    let rest = edits_by name us (i + 1) (drop (i + 1) ds) (drop (i + 1) rs) in
    let count : suc i ≡ i + 1 = omega arith in
    ap (λ (q : List (List code.Edit)). seen q ++ rest) is ∙ ap (λ (q : List (List Edit)). q ++ rest) (map-append (map edit_of) old (es ∷ [])) ∙ append_assoc (seen old) (map edit_of es ∷ []) rest
    ∙ (λ j. seen old ++ e j ∷ rest) ∙ sym (ap (λ (q : List (List Edit)). seen old ++ q) (next_edits name us i i ds rs are lt
    ∙ ap (λ (n : ℕ). edits_of (name_at name (identifiers_of i us)) (text_of ds i) (spans_at (spans_of rs) i) ∷ edits_by name us n (drop n ds) (drop n rs)) count)) ∙ was

pub can_more : (i : ℕ) (ds : List (List ℕ × Document)) (old new : List (List code.Edit)) (es : List code.Edit) → i < length ds → CanEditAll (take i ds) old → new ≡ old ++ es ∷ [] → CanEdit (text_of ds i) es → CanEditAll (take (i + 1) ds) new
can_more i ds old new es lt can is e =
    let count : suc i ≡ i + 1 = omega arith in
    subst (CanEditAll (take (i + 1) ds)) (sym is) (subst (λ (n : ℕ). CanEditAll (take n ds) (old ++ es ∷ [])) count (go i ds old lt can e))
  where
    go : (i : ℕ) (ds : List (List ℕ × Document)) (old : List (List code.Edit)) → i < length ds → CanEditAll (take i ds) old → CanEdit (text_of ds i) es → CanEditAll (take (suc i) ds) (old ++ es ∷ [])
    go i [] old lt can e = absurd (omega (arith, lt))
    go zero (d ∷ ds) [] lt can e = (e, tt)
    go zero (d ∷ ds) (o ∷ old) lt can e = absurd can
    go (suc i) (d ∷ ds) [] lt can e = absurd can
    go (suc i) (d ∷ ds) (o ∷ old) lt can e = (can.0, go i ds old (omega (arith, lt)) can.1 e)

-- ---- gone through one by one

pub as_many : (ds : List (List ℕ × Document)) (all : List (List code.Edit)) → CanEditAll ds all → length all ≡ length ds
as_many [] [] can = refl
as_many [] (es ∷ all) can = absurd can
as_many (d ∷ ds) [] can = absurd can
as_many (d ∷ ds) (es ∷ all) can = ap suc (as_many ds all can.1)

pub can_one : (ds : List (List ℕ × Document)) (all : List (List code.Edit)) (i : ℕ) (es : List code.Edit) → CanEditAll ds all → i < length all → es ≡ get_or all i es → CanEdit (text_of ds i) es
can_one ds [] i es can lt is = absurd (omega (arith, lt))
can_one [] (fs ∷ all) i es can lt is = absurd can
can_one (d ∷ ds) (fs ∷ all) zero es can lt is = subst (CanEdit d.1.1) (sym is) can.0
can_one (d ∷ ds) (fs ∷ all) (suc i) es can lt is = can_one ds all i es can.1 (omega (arith, lt)) is

module _ (ds : List (List ℕ × Document)) (all : List (List code.Edit)) where
  pub next_long : (i : ℕ) (es : List code.Edit) → CanEditAll ds all → i < length all → es ≡ get_or all i es →
      too_long (drop i ds) (seen (drop i all)) ≡ cond (nat_lt max_text (length (edited (map edit_of es) (text_of ds i)))) (Some (document_at ds i).0) (too_long (drop (i + 1) ds) (seen (drop (i + 1) all)))
  next_long i es can lt is =
      let count : suc i ≡ i + 1 = omega arith in
      go ds all i can lt is ∙ ap (λ (n : ℕ). cond (nat_lt max_text (length (edited (map edit_of es) (text_of ds i)))) (Some (document_at ds i).0) (too_long (drop n ds) (seen (drop n all)))) count
    where
      go : (ds : List (List ℕ × Document)) (all : List (List code.Edit)) (i : ℕ) → CanEditAll ds all → i < length all → es ≡ get_or all i es →
          too_long (drop i ds) (seen (drop i all)) ≡ cond (nat_lt max_text (length (edited (map edit_of es) (text_of ds i)))) (Some (document_at ds i).0) (too_long (drop (suc i) ds) (seen (drop (suc i) all)))
      go ds [] i can lt is = absurd (omega (arith, lt))
      go [] (fs ∷ all) i can lt is = absurd can
      go (d ∷ ds) (fs ∷ all) zero can lt is = ap (λ (x : List code.Edit). cond (nat_lt max_text (length (edited (map edit_of x) d.1.1))) (Some d.0) (too_long ds (seen all))) (sym is)
      go (d ∷ ds) (fs ∷ all) (suc i) can lt is = go ds all i can.1 (omega (arith, lt)) is

  pub next_edited : (i : ℕ) (es : List code.Edit) → CanEditAll ds all → i < length all → es ≡ get_or all i es →
      all_edited (drop i ds) (seen (drop i all)) ≡ edited (map edit_of es) (text_of ds i) ∷ all_edited (drop (i + 1) ds) (seen (drop (i + 1) all))
  next_edited i es can lt is =
      let count : suc i ≡ i + 1 = omega arith in
      go ds all i can lt is ∙ ap (λ (n : ℕ). edited (map edit_of es) (text_of ds i) ∷ all_edited (drop n ds) (seen (drop n all))) count
    where
      go : (ds : List (List ℕ × Document)) (all : List (List code.Edit)) (i : ℕ) → CanEditAll ds all → i < length all → es ≡ get_or all i es →
          all_edited (drop i ds) (seen (drop i all)) ≡ edited (map edit_of es) (text_of ds i) ∷ all_edited (drop (suc i) ds) (seen (drop (suc i) all))
      go ds [] i can lt is = absurd (omega (arith, lt))
      go [] (fs ∷ all) i can lt is = absurd can
      go (d ∷ ds) (fs ∷ all) zero can lt is = λ j. edited (map edit_of (sym is j)) d.1.1 ∷ all_edited ds (seen all)
      go (d ∷ ds) (fs ∷ all) (suc i) can lt is = go ds all i can.1 (omega (arith, lt)) is

  pub next_told : (encoding : Encoding) (i : ℕ) (es : List code.Edit) → CanEditAll ds all → i < length all → es ≡ get_or all i es →
      told.told encoding (drop i ds) (seen (drop i all))
      ≡ told_of (document_at ds i).0 (map (edit_told encoding (text_of ds i)) (map edit_of es)) ++ told.told encoding (drop (i + 1) ds) (seen (drop (i + 1) all))
  next_told encoding i es can lt is =
      let count : suc i ≡ i + 1 = omega arith in
      go ds all i can lt is ∙ ap (λ (n : ℕ). told_of (document_at ds i).0 (map (edit_told encoding (text_of ds i)) (map edit_of es)) ++ told.told encoding (drop n ds) (seen (drop n all))) count
    where
      go : (ds : List (List ℕ × Document)) (all : List (List code.Edit)) (i : ℕ) → CanEditAll ds all → i < length all → es ≡ get_or all i es →
          told.told encoding (drop i ds) (seen (drop i all))
          ≡ told_of (document_at ds i).0 (map (edit_told encoding (text_of ds i)) (map edit_of es)) ++ told.told encoding (drop (suc i) ds) (seen (drop (suc i) all))
      go ds [] i can lt is = absurd (omega (arith, lt))
      go [] (fs ∷ all) i can lt is = absurd can
      go (d ∷ ds) (fs ∷ all) zero can lt is = λ j. told_of d.0 (map (edit_told encoding d.1.1) (map edit_of (sym is j))) ++ told.told encoding ds (seen all)
      go (d ∷ ds) (fs ∷ all) (suc i) can lt is = go ds all i can.1 (omega (arith, lt)) is

  none_left : {A : Type 0} (i : ℕ) (xs : List A) → length xs ≤ i → drop i xs ≡ []
  none_left zero [] le = refl
  none_left (suc i) [] le = refl
  none_left zero (x ∷ xs) le = absurd (omega (arith, le))
  none_left (suc i) (x ∷ xs) le = none_left i xs (omega (arith, le))

  pub all_gone : (i : ℕ) → CanEditAll ds all → length all ≤ i → drop i ds ≡ []
  all_gone i can le = none_left i ds (omega (arith, le, as_many ds all can))

-- ---- those of a class

pub edits_are : (ls : List Link) (us : List UnitResult) (stem : List ℕ) (o : Occ) (n : ℕ) (ds : List (List ℕ × Document)) (rs : List Read) → edits_by (name_of (members_of ls stem o)) us n ds rs ≡ edits_from ls us stem o n ds rs
edits_are ls us stem o n [] rs = refl
edits_are ls us stem o n (d ∷ ds) [] = refl
edits_are ls us stem o n (d ∷ ds) (r ∷ rs) = λ j. edits_of (name_at (name_of (members_of ls stem o)) (identifiers_of n us)) d.1.1 (spans_in r) ∷ edits_are ls us stem o (suc n) ds rs j
