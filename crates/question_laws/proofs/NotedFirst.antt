-- The second part of a form defines nothing, so all that is noted for it is asked when it begins; and so is all that is noted for its first part
-- but for that in which its own definitions have a part.
use Rattle.std.proofs.Common.{◌≡◌, ℕ, List, [], ◌∷◌, ◌++◌, Bool, true, false, cond, Option, Some, None, Ok, refl, sym, ap, ◌∙◌, subst, ◌⊎◌, inl, inr}
use Rattle.std.specs.Prelude.{◌&&◌, ◌||◌, not}
use Rattle.scheme_model.specs.Identifiers.{Number}
use Rattle.scheme_model.specs.Ident.{Ident, Written, Inserted}
use Rattle.scheme_model.specs.ExpansionFaults.{Named}
use Rattle.scheme_model.specs.Meaning.{Meaning, Local, Global, Standard, Free}
use Rattle.scheme_model.specs.RulesShape.{Rules}
use Rattle.scheme_model.specs.Order.{Left, Pending, Asked, Meant, Headed, RulesOf, Alike, Assigns, Library, is_some}
use Rattle.scheme_model.specs.ScopedExpansion.{ScopedState, Frames, FramedIdent, macro_at, body_around}
use Rattle.scheme_model.specs.OwnAnswers.{own_local}
use Rattle.scheme_model.specs.Questions.{Moment, Around, own_at, Outcome, Stands, Redefines, StoodBefore, outcome, Question, LooksUp, UsesRules, Compares, IsAssigned, Requires, Defines, unless_own, unless_local, in_unit, left_to_ask, dated, all_left, Asking, number_in, ended}
use Rattle.scheme_model.specs.FormsAlike.{start, finish_asking}
use Rattle.form_laws.specs.Begins.{Each}
use Rattle.form_laws.proofs.AskingSides.{NoLocals}
use Rattle.question_laws.specs.Noted.{is_to_come, before_uses, is_defined_in, defines_within, answers_alone, compares_alone, noted_as, noted, all_noted, HasPart}
use Rattle.question_laws.proofs.AskingRuns.{Invariant, left_holds}
use Rattle.question_laws.proofs.OwnRuns.{each_append}

-- ---- nothing is defined

within_none : (i : Ident) → defines_within [] i ≡ false
within_none (Written u x) = refl
within_none (Inserted i k) = within_none i

alone_none : (s : ScopedState) (i : Ident) → answers_alone s [] i ≡ false
alone_none s (Written u x) = refl
alone_none s (Inserted i k) = ap (λ b. is_to_come s k && b) (alone_none s i) ∙ never (is_to_come s k)
  where
    never : (b : Bool) → (b && false) ≡ false
    never true = refl
    never false = refl

module _ (w : Around) where
  -- asked when the form begins
  abbrev pub IsFirst : Moment × Question → Type 0
  IsFirst q = q.0 ≡ start w.state

  abbrev First : Moment × Question → Type 0
  First q = Each IsFirst (noted w q)

  noted_first : (alone part : Bool) (now : Moment × Question) (z : Question) → alone ≡ false → part ≡ false → Each IsFirst (noted_as w alone part now z)
  noted_first true part now z e f = let q : true ≡ false = e in absurd cc
  noted_first false true now z e f = let q : true ≡ false = f in absurd cc
  noted_first false false now z e f = (refl, tt)

  unless_first : (b : Bool) (z : Question) → Each IsFirst (cond b [] ((start w.state, z) ∷ []))
  unless_first true z = tt
  unless_first false z = (refl, tt)

  module _ (n : Moment) (e : n.table ≡ []) where
    look_first : (i : Ident) → First (n, LooksUp i)
    look_first i =
        noted_first (answers_alone w.state n.table i) (defines_within n.table i) (n, LooksUp i) (LooksUp (before_uses w.state i)) (ap (λ ds. answers_alone w.state ds i) e ∙ alone_none w.state i) (ap (λ ds. defines_within ds i) e ∙ within_none i)

    compare_first : (l i : Ident) → First (n, Compares l i)
    compare_first l i =
        noted_first (compares_alone w.state n.table l i) (defines_within n.table l || defines_within n.table i) (n, Compares l i) (Compares (before_uses w.state l) (before_uses w.state i))
        (ap (λ ds. compares_alone w.state ds l i) e ∙ (let p = alone_none w.state l in let q = alone_none w.state i in λ j. (p j && (q j || not (defines_within [] i))) || (q j && not (defines_within [] l))))
        (ap (λ ds. defines_within ds l || defines_within ds i) e ∙ (let p = within_none l in let q = within_none i in λ j. p j || q j))

    own_first : (o : Option Number) (qs : List Question) → Each First (dated n qs) → Each First (dated n (unless_own o qs))
    own_first None qs h = h
    own_first (Some v) qs h = tt

    rules_first : (m : Meaning) → Each First (dated n (unless_local m))
    rules_first (Local v) = tt
    rules_first (Global u i) = (unless_first (is_some (macro_at n.macros (Global u i))) (UsesRules (Global u i)), tt)
    rules_first (Standard x) = (unless_first (is_some (macro_at n.macros (Standard x))) (UsesRules (Standard x)), tt)
    rules_first (Free x) = (unless_first (is_some (macro_at n.macros (Free x))) (UsesRules (Free x)), tt)

    assigned_first : (b : Option Number) (i : Ident) → Each First (dated n (in_unit b (IsAssigned i)))
    assigned_first None i = (unless_first (is_defined_in n.table w.state.unit i) (IsAssigned i), tt)
    assigned_first (Some b) i = tt

    left_first : (a : Asked Frames Ident) → Each First (dated n (left_to_ask n a))
    left_first (Meant fs i) = own_first (own_local (own_at n) fs i) (LooksUp i ∷ []) (look_first i, tt)
    left_first (Headed fs i) = own_first (own_local (own_at n) fs i) (LooksUp i ∷ []) (look_first i, tt)
    left_first (RulesOf m) = rules_first m
    left_first (Alike ds l fs i) = own_first (own_local (own_at n) ds l) (unless_own (own_local (own_at n) fs i) (Compares l i ∷ [])) (own_first (own_local (own_at n) fs i) (Compares l i ∷ []) (compare_first l i, tt))
    left_first (Assigns fs i) = assigned_first (body_around fs) i
    left_first (Library l) = ((refl, tt), tt)

    all_first : (xs : List (Asked Frames Ident)) (qs : List (Moment × Question)) → Each First qs → Each First (all_left n xs ++ qs)
    all_first [] qs h = h
    all_first (a ∷ xs) qs h = subst (λ (zs : List (Moment × Question)). Each First zs) (sym (append_all (dated n (left_to_ask n a)) (all_left n xs) qs)) (each_append w First (dated n (left_to_ask n a)) (all_left n xs ++ qs) (left_first a) (all_first xs qs h))
      where
        append_all : (xs ys zs : List (Moment × Question)) → (xs ++ ys) ++ zs ≡ xs ++ (ys ++ zs)
        append_all [] ys zs = refl
        append_all (x ∷ xs) ys zs = ap (λ us. x ∷ us) (append_all xs ys zs)

  -- ---- the run

  abbrev Undefined : Asking → Type 0
  Undefined s = (s.moment.table ≡ []) × Each First s.asked

  -- definitions are made in a body
  abbrev InBody : Frames → Type 0
  InBody fs = (b : Number) × (body_around fs ≡ Some b)

  module _ (fs : Frames) (x : Named Ident) (r : Option (Rules Ident)) (p : Pending Ident FramedIdent) (n : Moment) where
    body_defines : (qs : List (Moment × Question)) (b : Option Number) → ((c : Number) × (b ≡ Some c)) → Undefined (record { moment = n; asked = qs })
        → Undefined (record { moment = (ended (outcome w n b fs x r p.notes) w b x r fs p n).1; asked = dated n (in_unit b (Defines fs x r p.notes)) ++ qs })
    body_defines qs None d h = let q : false ≡ true = ap is_some d.1 in absurd cc
    body_defines qs (Some b) d h = go (outcome w n (Some b) fs x r p.notes)
      where
        go : (o : Outcome) → Undefined (record { moment = (ended o w (Some b) x r fs p n).1; asked = qs })
        go Redefines = h
        go StoodBefore = h
        go Stands = h

  undefined : Invariant w
  undefined = record {
    holds = Undefined;
    defines = InBody;
    still = λ s u a b c h. (a ∙ h.0, subst (λ (qs : List (Moment × Question)). Each First qs) (sym c) h.1);
    asks = λ s qs h. (h.0, all_first s.moment h.0 qs s.asked h.1);
    keeps = λ s v r fs h. h;
    makes = λ s fs d x r p h. body_defines fs x r p s.moment s.asked (body_around fs) d h;
    inside = λ s fs ts. (number_in w s.moment.bodies, refl);
  }

  noted_all : (qs : List (Moment × Question)) → Each First qs → Each IsFirst (all_noted w qs)
  noted_all [] h = tt
  noted_all (q ∷ qs) h = each_append w IsFirst (noted w q) (all_noted w qs) h.0 (noted_all qs h.1)

  pub left_noted_first : NoLocals w → (turns : ℕ) (l : Left Ident) → Each IsFirst (all_noted w (finish_asking w turns (Ok l)).1.asked)
  unfolding undefined
  left_noted_first en turns l = noted_all (finish_asking w turns (Ok l)).1.asked (left_holds w en undefined turns l (refl, tt)).1

  -- ---- the first part

  -- asked when the form begins, or its own definitions have a part in it
  abbrev pub IsFirstOr : Moment × Question → Type 0
  IsFirstOr q = (q.0 ≡ start w.state) ⊎ HasPart q

  noted_or : (alone part : Bool) (now : Moment × Question) (z : Question) → (part ≡ true → HasPart now) → Each IsFirstOr (noted_as w alone part now z)
  noted_or true part now z h = tt
  noted_or false true now z h = (inr (h refl), tt)
  noted_or false false now z h = (inl refl, tt)

  unless_or : (b : Bool) (z : Question) → Each IsFirstOr (cond b [] ((start w.state, z) ∷ []))
  unless_or true z = tt
  unless_or false z = (inl refl, tt)

  one_or : (n : Moment) (q : Question) → Each IsFirstOr (noted w (n, q))
  one_or n (LooksUp i) = noted_or (answers_alone w.state n.table i) (defines_within n.table i) (n, LooksUp i) (LooksUp (before_uses w.state i)) (λ e. e)
  one_or n (UsesRules m) = unless_or (is_some (macro_at n.macros m)) (UsesRules m)
  one_or n (Compares l i) =
      noted_or (compares_alone w.state n.table l i) (defines_within n.table l || defines_within n.table i) (n, Compares l i) (Compares (before_uses w.state l) (before_uses w.state i)) (λ e. e)
  one_or n (IsAssigned i) = unless_or (is_defined_in n.table w.state.unit i) (IsAssigned i)
  one_or n (Requires l) = (inl refl, tt)
  one_or n (Defines fs x r ns) = (inr tt, tt)

  pub all_or : (qs : List (Moment × Question)) → Each IsFirstOr (all_noted w qs)
  all_or [] = tt
  all_or ((n, q) ∷ qs) = each_append w IsFirstOr (noted w (n, q)) (all_noted w qs) (one_or n q) (all_or qs)
