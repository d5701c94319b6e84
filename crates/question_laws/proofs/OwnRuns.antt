-- Whatever a form has defined by a moment was a definition that stood, among its questions.
use Rattle.std.proofs.Common.{◌≡◌, ◌⊎◌, inl, inr, ℕ, List, [], ◌∷◌, ◌++◌, Bool, true, false, cond, eqb, Option, Some, None, Ok, refl, sym, ap, ◌∙◌, subst, eq-eqb}
use Rattle.std.specs.Prelude.{◌&&◌}
use Rattle.std.proofs.lemmas.Bool.{and_from}
use Rattle.scheme_model.specs.Identifiers.{Number}
use Rattle.scheme_model.specs.Ident.{Ident, same_ident}
use Rattle.scheme_model.specs.Trees.{Tree}
use Rattle.scheme_model.specs.ExpansionFaults.{Named}
use Rattle.scheme_model.specs.Meaning.{Meaning, Local, Global, Standard, Free, same_meaning}
use Rattle.scheme_model.specs.RulesShape.{Rules}
use Rattle.scheme_model.specs.Order.{Left, Pending, Asked, is_some}
use Rattle.scheme_model.specs.Substitution.{Table, Defined, defined_in}
use Rattle.scheme_model.specs.ScopedExpansion.{Frames, FramedIdent, ScopedMacro, macro_at, body_around}
use Rattle.scheme_model.specs.Questions.{Moment, Around, Outcome, Stands, Redefines, StoodBefore, unit_outcome, outcome, Question, LooksUp, UsesRules, Compares, IsAssigned, Requires, Defines, left_to_ask, dated, all_left, in_unit, Asking, ended}
use Rattle.scheme_model.specs.FormsAlike.{set_aside_asking, finish_asking}
use Rattle.scheme_model.proofs.IdentLaws.{ident_itself}
use Rattle.form_laws.specs.Begins.{Each}
use Rattle.form_laws.proofs.AskingSides.{NoLocals}
use Rattle.question_laws.specs.Noted.{is_defined_in}
use Rattle.question_laws.proofs.Roots.{same_one}
use Rattle.question_laws.proofs.AskingRuns.{Invariant, pass_holds, left_holds}

module _ (w : Around) where
  -- a question by which the form defines it
  abbrev pub Makes : ℕ → Ident → Moment × Question → Type 0
  Makes u i (n, LooksUp j) = ⊥
  Makes u i (n, UsesRules m) = ⊥
  Makes u i (n, Compares l j) = ⊥
  Makes u i (n, IsAssigned j) = ⊥
  Makes u i (n, Requires l) = ⊥
  Makes u i (n, Defines fs x r ns) = (w.state.unit ≡ u) × (x.name ≡ i) × (unit_outcome w n fs x r ns ≡ Stands)

  abbrev pub Made : List (Moment × Question) → ℕ → Ident → Type 0
  Made [] u i = ⊥
  Made (q ∷ qs) u i = Makes u i q ⊎ Made qs u i

  -- what it has a macro for is a local, or a definition of its own
  abbrev pub IsLocalOr : Table → Meaning → Type 0
  IsLocalOr own (Local v) = Unit {0}
  IsLocalOr own (Global u i) = is_defined_in own u i ≡ true
  IsLocalOr own (Standard x) = ⊥
  IsLocalOr own (Free x) = ⊥

  -- all that a moment has defined
  abbrev pub AllMade : List (Moment × Question) → Moment → Type 0
  AllMade qs n = Each (λ (d : Defined). Made qs d.unit d.ident) n.table × Each (λ (k : ScopedMacro). IsLocalOr n.table k.meaning) n.macros

  abbrev pub Known : Asking → Type 0
  Known s = AllMade s.asked s.moment × Each (λ (q : Moment × Question). AllMade s.asked q.0) s.asked

  -- ---- more questions

  made_more : (ps qs : List (Moment × Question)) (u : ℕ) (i : Ident) → Made qs u i → Made (ps ++ qs) u i
  made_more [] qs u i h = h
  made_more (p ∷ ps) qs u i h = inr (made_more ps qs u i h)

  each_more : {X : Type 0} (P Q : X → Type 0) → ((x : X) → P x → Q x) → (xs : List X) → Each P xs → Each Q xs
  each_more P Q f [] h = tt
  each_more P Q f (x ∷ xs) h = (f x h.0, each_more P Q f xs h.1)

  pub each_append : {X : Type 0} (P : X → Type 0) (xs ys : List X) → Each P xs → Each P ys → Each P (xs ++ ys)
  each_append P [] ys h k = k
  each_append P (x ∷ xs) ys h k = (h.0, each_append P xs ys h.1 k)

  macro_more : (d : Defined) (own : Table) (m : Meaning) → IsLocalOr own m → IsLocalOr (d ∷ own) m
  macro_more d own (Local v) h = tt
  macro_more d own (Global u i) h = go (eqb d.unit u && same_ident d.ident i)
    where
      go : (b : Bool) → is_some (cond b (Some d) (defined_in own u i)) ≡ true
      go true = refl
      go false = h
  macro_more d own (Standard x) h = absurd h
  macro_more d own (Free x) h = absurd h

  macros_more : (d : Defined) (own : Table) (ks : List ScopedMacro) → Each (λ (k : ScopedMacro). IsLocalOr own k.meaning) ks → Each (λ (k : ScopedMacro). IsLocalOr (d ∷ own) k.meaning) ks
  macros_more d own ks h = each_more (λ (k : ScopedMacro). IsLocalOr own k.meaning) (λ (k : ScopedMacro). IsLocalOr (d ∷ own) k.meaning) (λ k a. macro_more d own k.meaning a) ks h

  defined_first : (d : Defined) (own : Table) → is_defined_in (d ∷ own) d.unit d.ident ≡ true
  defined_first d own = ap (λ b. is_some (cond b (Some d) (defined_in own d.unit d.ident))) (and_from (eqb d.unit d.unit) (same_ident d.ident d.ident) (eq-eqb d.unit d.unit refl) (ident_itself d.ident))

  all_more : (ps qs : List (Moment × Question)) (n : Moment) → AllMade qs n → AllMade (ps ++ qs) n
  all_more ps qs n h = (
    each_more (λ (d : Defined). Made qs d.unit d.ident) (λ (d : Defined). Made (ps ++ qs) d.unit d.ident) (λ d a. made_more ps qs d.unit d.ident a) n.table h.0,
    h.1,
  )

  each_dated : (qs : List (Moment × Question)) (n : Moment) → AllMade qs n → (xs : List Question) → Each (λ (q : Moment × Question). AllMade qs q.0) (dated n xs)
  each_dated qs n h [] = tt
  each_dated qs n h (x ∷ xs) = (h, each_dated qs n h xs)

  each_left : (qs : List (Moment × Question)) (n : Moment) → AllMade qs n → (xs : List (Asked Frames Ident)) → Each (λ (q : Moment × Question). AllMade qs q.0) (all_left n xs)
  each_left qs n h [] = tt
  each_left qs n h (a ∷ xs) = each_append (λ (q : Moment × Question). AllMade qs q.0) (dated n (left_to_ask n a)) (all_left n xs) (each_dated qs n h (left_to_ask n a)) (each_left qs n h xs)

  -- asked at this moment
  asked_more : (s : Asking) (ps : List (Moment × Question)) → ((qs : List (Moment × Question)) → AllMade qs s.moment → Each (λ (q : Moment × Question). AllMade qs q.0) ps) → Known s → Known (record { moment = s.moment; asked = ps ++ s.asked })
  asked_more s ps now h =
      let a = all_more ps s.asked s.moment h.0 in (
        a,
        each_append (λ (q : Moment × Question). AllMade (ps ++ s.asked) q.0) ps s.asked (now (ps ++ s.asked) a)
            (each_more (λ (q : Moment × Question). AllMade s.asked q.0) (λ (q : Moment × Question). AllMade (ps ++ s.asked) q.0) (λ q b. all_more ps s.asked q.0 b) s.asked h.1),
      )

  -- ---- macros

  macro_as : (own : Table) (m n : Meaning) → same_meaning m n ≡ true → IsLocalOr own m → IsLocalOr own n
  macro_as own (Local v) (Local z) e h = tt
  macro_as own (Local v) (Global u i) e h = let q : false ≡ true = e in absurd cc
  macro_as own (Local v) (Standard x) e h = let q : false ≡ true = e in absurd cc
  macro_as own (Local v) (Free x) e h = let q : false ≡ true = e in absurd cc
  macro_as own (Global u i) (Local z) e h = let q : false ≡ true = e in absurd cc
  macro_as own (Global u i) (Global v j) e h = let p = same_one u v i j e in let a = p.0 in let b = p.1 in (λ z. is_defined_in own (sym a z) (sym b z)) ∙ h
  macro_as own (Global u i) (Standard x) e h = let q : false ≡ true = e in absurd cc
  macro_as own (Global u i) (Free x) e h = let q : false ≡ true = e in absurd cc
  macro_as own (Standard x) n e h = absurd h
  macro_as own (Free x) n e h = absurd h

  pub macro_own : (own : Table) (ks : List ScopedMacro) → Each (λ (k : ScopedMacro). IsLocalOr own k.meaning) ks → (m : Meaning) → is_some (macro_at ks m) ≡ true → IsLocalOr own m
  macro_own own [] h m e = let q : false ≡ true = e in absurd cc
  macro_own own (k ∷ ks) h m e = go (same_meaning k.meaning m) refl (λ f. macro_own own ks h.1 m f) e
    where
      go : (b : Bool) → same_meaning k.meaning m ≡ b → (is_some (macro_at ks m) ≡ true → IsLocalOr own m) → is_some (cond b (Some (record { env = k.frames; rules = k.rules })) (macro_at ks m)) ≡ true → IsLocalOr own m
      go true f r e = macro_as own k.meaning m f h.0
      go false f r e = r e

  -- ---- a definition

  module _ (fs : Frames) (x : Named Ident) (r : Option (Rules Ident)) (p : Pending Ident FramedIdent) (n : Moment) where
    in_unit_known : (qs : List (Moment × Question)) (o : Outcome) → unit_outcome w n fs x r p.notes ≡ o → Known (record { moment = n; asked = qs })
        → Known (record { moment = (ended o w None x r fs p n).1; asked = (n, Defines fs x r p.notes) ∷ qs })
    in_unit_known qs o e h = go o e r refl
      where
        ps : List (Moment × Question)
        ps = (n, Defines fs x r p.notes) ∷ []

        new : Bool → Defined
        new keyword = record { unit = w.state.unit; form = w.state.form; ident = x.name; keyword = keyword; occ = x.occ }

        before : Known (record { moment = n; asked = ps ++ qs })
        before = asked_more (record { moment = n; asked = qs }) ps (λ zs a. (a, tt)) h

        go : (o : Outcome) → unit_outcome w n fs x r p.notes ≡ o → (z : Option (Rules Ident)) → r ≡ z → Known (record { moment = (ended o w None x z fs p n).1; asked = ps ++ qs })
        go Redefines e z f = before
        go StoodBefore e z f = before
        go Stands e None f = (((inl (refl, refl, e), before.0.0), macros_more (new false) n.table n.macros before.0.1), before.1)
        go Stands e (Some rules) f = (((inl (refl, refl, e), before.0.0), (defined_first (new true) n.table, macros_more (new true) n.table n.macros before.0.1)), before.1)

    in_body_known : (qs : List (Moment × Question)) (b : Number) (o : Outcome) → Known (record { moment = n; asked = qs }) → Known (record { moment = (ended o w (Some b) x r fs p n).1; asked = qs })
    in_body_known qs b o h = go o r
      where
        go : (o : Outcome) (z : Option (Rules Ident)) → Known (record { moment = (ended o w (Some b) x z fs p n).1; asked = qs })
        go Redefines z = h
        go StoodBefore z = h
        go Stands None = h
        go Stands (Some rules) = ((h.0.0, (tt, h.0.1)), h.1)

    defined_known : (qs : List (Moment × Question)) (b : Option Number) → Known (record { moment = n; asked = qs })
        → Known (record { moment = (ended (outcome w n b fs x r p.notes) w b x r fs p n).1; asked = dated n (in_unit b (Defines fs x r p.notes)) ++ qs })
    defined_known qs None h = in_unit_known qs (unit_outcome w n fs x r p.notes) refl h
    defined_known qs (Some b) h = in_body_known qs b (outcome w n (Some b) fs x r p.notes) h

  -- ---- the run

  known_still : (s u : Asking) → u.moment.table ≡ s.moment.table → u.moment.macros ≡ s.moment.macros → u.asked ≡ s.asked → Known s → Known u
  known_still s u a b c h = (
    (
      subst (λ (qs : List (Moment × Question)). Each (λ (d : Defined). Made qs d.unit d.ident) u.moment.table) (sym c) (subst (λ (ds : Table). Each (λ (d : Defined). Made s.asked d.unit d.ident) ds) (sym a) h.0.0),
      subst (λ (ds : Table). Each (λ (k : ScopedMacro). IsLocalOr ds k.meaning) u.moment.macros) (sym a) (subst (λ (ks : List ScopedMacro). Each (λ (k : ScopedMacro). IsLocalOr s.moment.table k.meaning) ks) (sym b) h.0.1),
    ),
    subst (λ (qs : List (Moment × Question)). Each (λ (q : Moment × Question). AllMade qs q.0) qs) (sym c) h.1,
  )

  known : Invariant w
  known = record {
    holds = Known;
    defines = λ fs. Unit {0};
    still = λ s u a b c h. known_still s u a b c h;
    asks = λ s qs h. asked_more s (all_left s.moment qs) (λ zs a. each_left zs s.moment a qs) h;
    keeps = λ s v r fs h. ((h.0.0, (tt, h.0.1)), h.1);
    makes = λ s fs d x r p h. defined_known fs x r p s.moment s.asked (body_around fs) h;
    inside = λ s fs ts. tt;
  }

  pub pass_known : NoLocals w → (turns : ℕ) (t : Tree Ident) → Known (set_aside_asking w turns t).1
  unfolding known
  pass_known en turns t = pass_holds w en known tt turns t ((tt, tt), tt)

  pub left_known : NoLocals w → (turns : ℕ) (l : Left Ident) → Known (finish_asking w turns (Ok l)).1
  unfolding known
  left_known en turns l = left_holds w en known turns l ((tt, tt), tt)
