-- Questions that are asked one list behind another: what is noted is the same, in whatever order.
use Rattle.std.proofs.Common.{◌≡◌, ◌⊎◌, List, [], ◌∷◌, ◌++◌, refl, subst, inl, inr}
use Rattle.std.specs.List.{Contains}
use Rattle.std.proofs.lemmas.List.Elements.{Contains-append_left, Contains-append_right, Contains-append_cases}
use Rattle.scheme_model.specs.Ident.{Ident as Identifier}
use Rattle.scheme_model.specs.Requirements.{Known}
use Rattle.scheme_model.specs.Order.{Asked, Meant, Headed, RulesOf, Alike, Assigns, Library}
use Rattle.scheme_model.specs.ScopedExpansion.{Frames}
use Rattle.syntax_tree.specs.Names.{Names}
use Rattle.syntax_tree.specs.declared.trees.Work.{Work}
use Rattle.form_notes.specs.Noted.{Noted, Since}
use Rattle.form_notes.specs.Standing.{NotingStands}
use Rattle.form_notes.specs.declared.noting.Noting as code_noting
use Rattle.unit_scopes.specs.declared.scope.UnitScope.{UnitScope}
use Rattle.noted_steps.specs.Noting.{Noting, noting, note_of, noted_with}
use Rattle.noted_steps.specs.Standing.{Stands}
use Rattle.noted_steps.proofs.NoteLaws.{notes_again}

-- the same notes in another order
pub reordered : (names : Names) (x : code_noting.Noting) (r : Since) (ms ns : List Noted) → ((m : Noted) → Contains ms m → Contains ns m) → ((m : Noted) → Contains ns m → Contains ms m) → NotingStands names x r ms → NotingStands names x r ns
reordered names x r ms ns forth back h = record {
  since = h.since;
  stands = λ kept.
      let s = h.stands kept in
      record {
        own = s.own;
        notes = record {
          all = λ m there. s.notes.all m (back m there);
          alone = λ y there. (let p = s.notes.alone y there in (p.0, forth p.0 p.1, p.2));
        };
        order = s.order;
      };
}

module _ (known : Known) (s : Noting) where
  abbrev Questions : Type 0
  Questions = List (Asked Frames Identifier)

  abbrev all : Questions → List Noted → List Noted
  all qs ns = noted_with known s qs ns

  -- a note of one of the questions
  abbrev Notes : Questions → Noted → Type 0
  Notes [] m = ⊥
  Notes (q ∷ qs) m = Contains (note_of known s q) m ⊎ Notes qs m

  noted_cases : (qs : Questions) (ns : List Noted) (m : Noted) → Contains (all qs ns) m → Notes qs m ⊎ Contains ns m
  noted_cases [] ns m h = inr h
  noted_cases (q ∷ qs) ns m h = elim (Contains-append_cases (note_of known s q) (all qs ns) m h) [
    | inl here ↦ inl (inl here)
    | inr behind ↦ elim (noted_cases qs ns m behind) [
      | inl later ↦ inl (inr later)
      | inr before ↦ inr before
    ]
  ]

  noted_before : (qs : Questions) (ns : List Noted) (m : Noted) → Contains ns m → Contains (all qs ns) m
  noted_before [] ns m h = h
  noted_before (q ∷ qs) ns m h = Contains-append_right (note_of known s q) (all qs ns) m (noted_before qs ns m h)

  noted_now : (qs : Questions) (ns : List Noted) (m : Noted) → Notes qs m → Contains (all qs ns) m
  noted_now [] ns m h = absurd h
  noted_now (q ∷ qs) ns m h = elim h [
    | inl here ↦ Contains-append_left (note_of known s q) (all qs ns) m here
    | inr later ↦ Contains-append_right (note_of known s q) (all qs ns) m (noted_now qs ns m later)
  ]

  both_notes : (ps qs : Questions) (m : Noted) → Notes (ps ++ qs) m → Notes ps m ⊎ Notes qs m
  both_notes [] qs m h = inr h
  both_notes (p ∷ ps) qs m h = elim h [
    | inl here ↦ inl (inl here)
    | inr later ↦ elim (both_notes ps qs m later) [
      | inl one ↦ inl (inr one)
      | inr other ↦ inr other
    ]
  ]

  first_notes : (ps qs : Questions) (m : Noted) → Notes ps m → Notes (ps ++ qs) m
  first_notes [] qs m h = absurd h
  first_notes (p ∷ ps) qs m h = elim h [
    | inl here ↦ inl here
    | inr later ↦ inr (first_notes ps qs m later)
  ]

  second_notes : (ps qs : Questions) (m : Noted) → Notes qs m → Notes (ps ++ qs) m
  second_notes [] qs m h = h
  second_notes (p ∷ ps) qs m h = inr (second_notes ps qs m h)

  forth : (ps qs : Questions) (ns : List Noted) (m : Noted) → Contains (all qs (all ps ns)) m → Contains (all (ps ++ qs) ns) m
  forth ps qs ns m h = elim (noted_cases qs (all ps ns) m h) [
    | inl second ↦ noted_now (ps ++ qs) ns m (second_notes ps qs m second)
    | inr rest ↦ elim (noted_cases ps ns m rest) [
      | inl first ↦ noted_now (ps ++ qs) ns m (first_notes ps qs m first)
      | inr before ↦ noted_before (ps ++ qs) ns m before
    ]
  ]

  back : (ps qs : Questions) (ns : List Noted) (m : Noted) → Contains (all (ps ++ qs) ns) m → Contains (all qs (all ps ns)) m
  back ps qs ns m h = elim (noted_cases (ps ++ qs) ns m h) [
    | inl some ↦ elim (both_notes ps qs m some) [
      | inl first ↦ noted_before qs (all ps ns) m (noted_now ps ns m first)
      | inr second ↦ noted_now qs (all ps ns) m second
    ]
    | inr before ↦ noted_before qs (all ps ns) m (noted_before ps ns m before)
  ]

  -- what is asked doesn't depend on what was noted
  one_same : (ms : List Noted) (q : Asked Frames Identifier) → note_of known (record s { noted = ms }) q ≡ note_of known s q
  one_same ms (Meant fs i) = refl
  one_same ms (Headed fs i) = refl
  one_same ms (RulesOf m) = refl
  one_same ms (Alike ds l fs i) = refl
  one_same ms (Assigns fs i) = refl
  one_same ms (Library l) = refl

  pub all_same : (ms : List Noted) (qs : Questions) (ns : List Noted) → noted_with known (record s { noted = ms }) qs ns ≡ noted_with known s qs ns
  all_same ms [] ns = refl
  all_same ms (q ∷ qs) ns = let here = one_same ms q in let rest = all_same ms qs ns in λ j. here j ++ rest j

  -- one list of questions behind another
  pub asked_on : (work : Work) (u : UnitScope) (ls : List Frames) (ps qs : Questions) → Stands work u ls ((noting known).ask qs ((noting known).ask ps s)) → Stands work u ls ((noting known).ask (ps ++ qs) s)
  asked_on work u ls ps qs e =
      let first = all ps s.noted in
      notes_again work u ls ((noting known).ask qs ((noting known).ask ps s)) (all (ps ++ qs) s.noted)
      (λ exact. reordered work.symbols u.form.trace.notes s.since (all qs first) (all (ps ++ qs) s.noted) (forth ps qs s.noted) (back ps qs s.noted)
      (subst (λ (ms : List Noted). NotingStands work.symbols u.form.trace.notes s.since ms) (all_same first qs first) (e.notes exact)))
      e
