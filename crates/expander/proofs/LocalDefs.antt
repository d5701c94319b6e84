-- Local macros with their leaves, one after another.
use Rattle.std.proofs.Common.{◌≡◌, ℕ, zero, suc, ◌+◌, ◌<◌, ◌≤◌, List, [], ◌∷◌, ◌++◌, append_assoc, append-nil, length, get_or, drop, refl, sym, ap, ◌∙◌, subst, arith}
use Rattle.scheme_model.specs.Identifiers.{Number}
use Rattle.scheme_model.specs.ExpansionFaults.{Named}
use Rattle.scheme_model.specs.Ident.{Ident as Identifier}
use Rattle.scheme_model.specs.Requirements.{Known}
use Rattle.scheme_model.specs.Cores.{Binder, LocalNumber, MacroDef as ModelDef}
use Rattle.scheme_model.specs.Expression.{local_defs, macro_def}
use Rattle.syntax_tree.specs.declared.trees.Work.{Work}
use Rattle.core_tree.specs.Names.{AllMatch, IsBinder, IsMacro}
use Rattle.core_tree.specs.declared.cores.Binder as code_binder
use Rattle.core_tree.specs.declared.cores.MacroDef.{MacroDef}
use Rattle.unit_scopes.specs.Searched.{searched}
use Rattle.expander.specs.Bodies.{AreLocalMacros}
use Rattle.noted_steps.specs.Noting.{Noting, state_of, noting}

-- a macro is told as it is without notes
pub macro_def_is : (known : Known) (s : Noting) (b : Binder) → macro_def (noting known) s b ≡ macro_def (searched known) (state_of s) b
macro_def_is known s b = refl

pub record LocalThere (work : Work) (s : Noting) (vs : List Number) (ns : List (Named Identifier)) (k : ℕ) (b : code_binder.Binder) : Type 0 where
  pub number : Number
  pub name : Named Identifier
  pub numbers_split : drop k vs ≡ number ∷ drop (k + 1) vs
  pub names_split : drop k ns ≡ name ∷ drop (k + 1) ns
  pub binder : IsBinder work.symbols s.unit s.form b (record { bound = LocalNumber number; ident = name.name; occ = name.occ })

pub local_there : (work : Work) (s : Noting) (bs : List code_binder.Binder) (vs : List Number) (ns : List (Named Identifier)) (k : ℕ) (d : code_binder.Binder) → AreLocalMacros work s bs vs ns → k < length bs → LocalThere work s vs ns k (get_or bs k d)
local_there work s [] vs ns k d h l = absurd (omega (arith, l))
local_there work s (b ∷ bs) [] ns k d h l = absurd h
local_there work s (b ∷ bs) (v ∷ vs) [] k d h l = absurd h
local_there work s (b ∷ bs) (v ∷ vs) (n ∷ ns) zero d h l = record { number = v; name = n; numbers_split = refl; names_split = refl; binder = h.0 }
local_there work s (b ∷ bs) (v ∷ vs) (n ∷ ns) (suc k) d h l =
    let q = local_there work s bs vs ns k d h.1 (omega (arith, l)) in
    let more : suc (k + 1) ≡ suc k + 1 = omega arith in
    record {
      number = q.number;
      name = q.name;
      numbers_split = q.numbers_split ∙ ap (λ (i : ℕ). q.number ∷ drop i (v ∷ vs)) more;
      names_split = q.names_split ∙ ap (λ (i : ℕ). q.name ∷ drop i (n ∷ ns)) more;
      binder = q.binder;
    }

pub locals_past : (work : Work) (s : Noting) (bs : List code_binder.Binder) (vs : List Number) (ns : List (Named Identifier)) (k : ℕ) → AreLocalMacros work s bs vs ns → length bs ≤ k → drop k vs ≡ []
locals_past work s [] [] [] zero h l = refl
locals_past work s [] [] [] (suc k) h l = refl
locals_past work s [] [] (n ∷ ns) k h l = absurd h
locals_past work s [] (v ∷ vs) ns k h l = absurd h
locals_past work s (b ∷ bs) [] ns k h l = absurd h
locals_past work s (b ∷ bs) (v ∷ vs) [] k h l = absurd h
locals_past work s (b ∷ bs) (v ∷ vs) (n ∷ ns) zero h l = absurd (omega (arith, l))
locals_past work s (b ∷ bs) (v ∷ vs) (n ∷ ns) (suc k) h l = locals_past work s bs vs ns k h.1 (omega (arith, l))

module _ (work : Work) (known : Known) (s : Noting) (vs : List Number) (ns : List (Named Identifier)) where
  abbrev Stand : List MacroDef → List ModelDef → Type 0
  Stand = AllMatch (IsMacro work s.unit s.form)

  -- with what is still to come these are all
  abbrev pub DefsSoFar : ℕ → List MacroDef → Type 0
  DefsSoFar k xs = (ds : List MacroDef) → AllMatch (IsMacro work s.unit s.form) ds (local_defs (noting known) s (drop k vs) (drop k ns)) → AllMatch (IsMacro work s.unit s.form) (xs ++ ds) (local_defs (noting known) s vs ns)

  pub one_def_more : (k : ℕ) (b : code_binder.Binder) (xs : List MacroDef) (x : MacroDef) (q : LocalThere work s vs ns k b) → DefsSoFar k xs →
      IsMacro work s.unit s.form x (macro_def (noting known) s (record { bound = LocalNumber q.number; ident = q.name.name; occ = q.name.occ })) → DefsSoFar (k + 1) (xs ++ x ∷ [])
  one_def_more k b xs x q so is ds h =
      subst (λ (l : List MacroDef). Stand l (local_defs (noting known) s vs ns)) (sym (append_assoc xs (x ∷ []) ds))
      (so (x ∷ ds)
      (subst (λ (l : List Number). Stand (x ∷ ds) (local_defs (noting known) s l (drop k ns))) (sym q.numbers_split)
      (subst (λ (l : List (Named Identifier)). Stand (x ∷ ds) (local_defs (noting known) s (q.number ∷ drop (k + 1) vs) l)) (sym q.names_split) (is, h))))

  pub all_defs : (k : ℕ) (xs : List MacroDef) → DefsSoFar k xs → drop k vs ≡ [] → AllMatch (IsMacro work s.unit s.form) xs (local_defs (noting known) s vs ns)
  all_defs k xs so past =
      subst (λ (l : List MacroDef). Stand l (local_defs (noting known) s vs ns)) (append-nil xs)
      (so [] (subst (λ (l : List Number). Stand [] (local_defs (noting known) s l (drop k ns))) (sym past) tt))
