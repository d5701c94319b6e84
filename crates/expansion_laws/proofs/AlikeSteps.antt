-- Two expansions that differ in definitions alone: while something holds of the states in which definitions are made, by which both
-- define alike, they come to the same.
use Rattle.std.proofs.Common.{◌≡◌, ℕ, List, [], ◌∷◌, map, Option, Result, refl}
use Rattle.scheme_model.specs.Identifiers.{Number}
use Rattle.scheme_model.specs.Ident.{Ident}
use Rattle.scheme_model.specs.Trees.{Trees}
use Rattle.scheme_model.specs.ExpansionFaults.{Named, Fault}
use Rattle.scheme_model.specs.Meaning.{Meaning}
use Rattle.scheme_model.specs.RulesShape.{Rules}
use Rattle.scheme_model.specs.Cores.{Target, MacroUse}
use Rattle.scheme_model.specs.Order.{Note, WaitingUse, Pending, Renamed, Transformer, Ops, target_of, meet_waiting, meet_all}
use Rattle.model_laws.proofs.FrameAsks.{AllOf}
use Rattle.model_laws.proofs.FrameHeads.{IfMacro}
use Rattle.model_laws.proofs.FrameHeld.{NoteAll, notes_more}
use Rattle.model_laws.proofs.CountedForms.{OkAll}

-- What holds of the states of an expansion and of what stands in them, and goes on to hold of those after them; where definitions are
-- made; and another way to define, which there is the same.
pub record Likeness {E A L S : Type 0} (ops : Ops E A L S) : Type 1 where
  pub define : Named A → Option (Rules A) → E → Pending A L → S → Result (Renamed A L) (Fault Ident) × S
  pub good : S → Type 0
  pub fits : S → E → Type 0
  pub noted : S → L → Type 0
  pub defines : E → Type 0
  pub later : S → S → Type 0
  pub itself : (s : S) → later s s
  pub then_ : (s t u : S) → later s t → later t u → later s u
  pub fits_later : (s t : S) → later s t → (e : E) → fits s e → fits t e
  pub noted_later : (s t : S) → later s t → (l : L) → noted s l → noted t l
  pub placed : (s : S) (e : E) → fits s e → (i : A) → noted s (ops.place e i)
  pub spend : (s : S) → good s → (n : ℕ) → good (ops.spend n s) × later s (ops.spend n s)
  pub spend_means : (s : S) (n : ℕ) (e : E) (i : A) → ops.means e (ops.spend n s) i ≡ ops.means e s i
  pub meet : (s : S) → good s → (t : Target) → good (ops.meet t s) × later s (ops.meet t s)
  pub meet_use : (s : S) → good s → (u : MacroUse) → good (ops.meet_use u s) × later s (ops.meet_use u s)
  pub begin_use : (s : S) → good s → (e : E) → fits s e → good (ops.begin_use e s) × later s (ops.begin_use e s)
  pub take_local : (s : S) → good s → good (ops.take_local s) × later s (ops.take_local s)
  pub bind : (s : S) → good s → (e : E) → fits s e → (x : A) (ts : Trees A) → (good (ops.bind x e ts s).state × later s (ops.bind x e ts s).state) × fits (ops.bind x e ts s).state (ops.bind x e ts s).env
  pub keep : (s : S) → good s → (e : E) → fits s e → (v : Number) (r : Rules A) → good (ops.keep v r e s) × later s (ops.keep v r e s)
  pub enter : (s : S) → good s → (e : E) → fits s e → (ts : Trees A) → (good (ops.enter e ts s).state × later s (ops.enter e ts s).state) × fits (ops.enter e ts s).state (ops.enter e ts s).env
  pub inside : (s : S) (e : E) (ts : Trees A) → defines (ops.enter e ts s).env
  pub transformer : (s : S) → good s → (m : Meaning) → IfMacro (λ (t : Transformer E A). fits s t.env) (ops.transformer s m)
  pub same : (s : S) → good s → (e : E) → defines e → fits s e → (n : Named A) (r : Option (Rules A)) (p : Pending A L) → AllOf (NoteAll (noted s)) p.notes → define n r e p s ≡ ops.define n r e p s
  pub defined : (s : S) → good s → (e : E) → defines e → fits s e → (n : Named A) (r : Option (Rules A)) (p : Pending A L) → good (ops.define n r e p s).1 × later s (ops.define n r e p s).1
  pub left : (s : S) (e : E) (n : Named A) (r : Option (Rules A)) (p : Pending A L) → OkAll (λ (d : Renamed A L). d.pending.notes ≡ p.notes) (ops.define n r e p s).0

module _ {E A L S : Type 0} (loud : Ops E A L S) (k : Likeness loud) where
  -- nothing is asked
  abbrev pub ops : Ops E A L S
  ops = record loud { ask = λ qs s. s }

  -- the expansion that defines the other way
  abbrev pub other : Ops E A L S
  other = record ops { define = k.define }

  abbrev pub After : S → S → Type 0
  After s t = k.good t × k.later s t

  abbrev pub On : E → S → Type 0
  On e s = k.good s × k.fits s e

  abbrev pub Notes : S → List (Note L) → Type 0
  Notes s ns = AllOf (NoteAll (k.noted s)) ns

  pub after_then : (s t u : S) → After s t → After t u → After s u
  after_then s t u a b = (b.0, k.then_ s t u a.1 b.1)

  pub on_after : (e : E) (s t : S) → On e s → After s t → On e t
  on_after e s t h a = (a.0, k.fits_later s t a.1 e h.1)

  pub notes_after : (s t : S) → After s t → (ns : List (Note L)) → Notes s ns → Notes t ns
  notes_after s t a ns h = notes_more (k.noted s) (k.noted t) (k.noted_later s t a.1) ns h

  pub here_after : (s : S) → k.good s → After s s
  here_after s g = (g, k.itself s)

  -- both come to the same, in a state after s
  pub record Alike {V : Type 0} (s : S) (q q' : V × S) : Type 0 where
    pub same : q' ≡ q
    pub after : After s q.1

  -- uses are met alike
  pub met_after : (e : E) (w : WaitingUse A) (s : S) → k.good s → After s (meet_waiting ops e w s)
  met_after e w s g = k.meet_use s g (record { keyword = w.keyword; literals = map (λ x. target_of ops e s x.name x.occ) w.literals })

  pub all_met_after : (e : E) (us : List (WaitingUse A)) (s : S) → k.good s → After s (meet_all ops e us s)
  all_met_after e [] s g = here_after s g
  all_met_after e (u ∷ us) s g = let a = met_after e u s g in after_then s (meet_waiting ops e u s) (meet_all ops e us (meet_waiting ops e u s)) a (all_met_after e us (meet_waiting ops e u s) a.0)

  pub all_met_same : (e : E) (us : List (WaitingUse A)) (s : S) → meet_all other e us s ≡ meet_all ops e us s
  all_met_same e [] s = refl
  all_met_same e (u ∷ us) s = all_met_same e us (meet_waiting ops e u s)
