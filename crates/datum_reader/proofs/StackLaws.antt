-- The stack as the code keeps it, outermost first.
use Rattle.std.proofs.Common.{◌≡◌, ℕ, ◌-◌, suc, List, [], ◌∷◌, ◌++◌, Option, Some, Result, Err, refl, sym, ap, ◌∙◌, subst, arith, length}
use Rattle.std.specs.List.{slice_get}
use Rattle.datum_reader.specs.declared.open.Frame.{Frame}
use Rattle.datum_reader.specs.declared.open.Spot as code_spot
use Rattle.scheme_tokens.specs.declared.fault.ReadFault.{ReadFault}
use Rattle.scheme_tokens.specs.declared.fault.ReadFault.TheVariants as told
use Rattle.scheme_model.specs.Data.{Datum}
use Rattle.scheme_model.specs.Numbered.{Spot}
use Rattle.scheme_model.specs.Faults.{Stop, stop}
use Rattle.datum_reader.specs.Open as model
use Rattle.datum_reader.specs.Views.{told_of}
use Rattle.datum_reader.specs.OpenViews.{spot_of, opener_of, frame_of, stacked, stack_of, Fails, Refuses}

pub stacked-push : (below : List model.Frame) (fs : List Frame) (f : Frame) → stacked below (fs ++ f ∷ []) ≡ frame_of f ∷ stacked below fs
stacked-push below [] f = refl
stacked-push below (g ∷ fs) f = stacked-push (frame_of g ∷ below) fs f

-- what one more frame, or one less, is
pub stack_push : (fs gs : List Frame) (f : Frame) → gs ≡ fs ++ f ∷ [] → stack_of gs ≡ frame_of f ∷ stack_of fs
stack_push fs gs f e = ap stack_of e ∙ stacked-push [] fs f

-- the innermost frame
pub last_frame : (below : List model.Frame) (fs : List Frame) (f : Frame) → slice_get fs (length fs - 1) ≡ Some f → (rest : List model.Frame) × (stacked below fs ≡ frame_of f ∷ rest)
last_frame below [] f h = cc
last_frame below (g ∷ []) f h = let same : g ≡ f = cc in (below, ap (λ (q : Frame). frame_of q ∷ below) same)
last_frame below (g ∷ e ∷ fs) f h =
    let before : suc (suc (length fs)) - 1 ≡ suc (suc (length fs) - 1) = omega arith in
    last_frame (frame_of g ∷ below) (e ∷ fs) f (ap (λ (n : ℕ). slice_get (g ∷ e ∷ fs) n) (sym before) ∙ h)

pub refused_last : (fs : List Frame) (f : Frame) (t : Spot) → slice_get fs (length fs - 1) ≡ Some f → model.refused (stack_of fs) t ≡ model.refused_by (opener_of f.opener) t
refused_last fs f t h = let l = last_frame [] fs f h in ap (λ (q : List model.Frame). model.refused q t) l.1

pub depth_last : (fs : List Frame) (f : Frame) → slice_get fs (length fs - 1) ≡ Some f → model.depth_of (stack_of fs) ≡ f.depth
depth_last fs f h = let l = last_frame [] fs f h in ap model.depth_of l.1

pub same_state : (fs gs : List model.Frame) (xs ys : List Datum) → fs ≡ gs → xs ≡ ys → model.state xs fs ≡ model.state ys gs
same_state fs gs xs ys p q = λ i. record { stack = p i; items = q i }

-- a fault told at a token
pub told_refused : (r : ReadFault) (n : ℕ) (t : code_spot.Spot) (o : Option Stop) → r ≡ told.At n t.span → o ≡ Some (stop n (spot_of t)) → Refuses (Err r) o
told_refused r n t o e h = subst (λ (q : ReadFault). Refuses (Err q) o) (sym e) h

pub told_fails : {A : Type 0} (r : ReadFault) (n : ℕ) (t : code_spot.Spot) (a : Result A Stop) → r ≡ told.At n t.span → a ≡ Err (stop n (spot_of t)) → Fails r a
told_fails r n t a e h = subst (λ (q : ReadFault). Fails q a) (sym e) h

pub told_stop : {A : Type 0} (r : ReadFault) (s : Stop) (a : Result A Stop) → r ≡ told_of s → a ≡ Err s → Fails r a
told_stop r s a e h = subst (λ (q : ReadFault). Fails q a) (sym e) h
