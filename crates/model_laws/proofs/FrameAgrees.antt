-- Both sides go together: they give related values, or the same fault, and states of which the definition's has what the scoped
-- side has.
use Rattle.std.proofs.Common.{◌≡◌, List, Bool, Result, Ok, Err, refl, ap, ◌∙◌}
use Rattle.scheme_model.specs.Identifiers.{Number, Name}
use Rattle.scheme_model.specs.Ident.{Ident, erase}
use Rattle.scheme_model.specs.ExpansionFaults.{Fault, fault_map}
use Rattle.scheme_model.specs.Steps.{Broken, Step, ◌>>=◌, fails}
use Rattle.scheme_model.specs.Order.{Here, given}
use Rattle.scheme_model.specs.Substitution.{State}
use Rattle.scheme_model.specs.ScopedExpansion.{Frames, ScopedState}
use Rattle.scheme_model.specs.Renaming.{result_map}
use Rattle.model_laws.proofs.FrameEras.{Era}
use Rattle.scheme_model.proofs.RenamingLaws.{Reads, reads}
use Rattle.model_laws.proofs.IdentKinds.{Kind, pointwise, faults_fused}
use Rattle.scheme_model.proofs.Clocks.{leq_itself}
use Rattle.model_laws.proofs.FrameNames.{erase_frame_image}
use Rattle.model_laws.proofs.FrameStates.{names, view, Old, ident_of, Made, FineState, Grows, grows_itself, grows_then}

-- K holds of the state after it, and of the body that is open on the definition's side; R relates the values
pub data Agrees {A B : Type 0} (K : ScopedState → Bool → List Number → Type 0) (R : ScopedState → A → B → Type 0) (r : Result A Broken × ScopedState) (m : Result B Broken × State) : Type 0 where
  agree : (a : A) (b : B) (t : ScopedState) (in_body : Bool) (mine : List Number) → r ≡ (Ok a, t) → m ≡ (Ok b, view in_body mine t) → K t in_body mine → R t a b → Agrees K R r m
  break : (e : Broken) (t : ScopedState) (in_body : Bool) (mine : List Number) → r ≡ (Err e, t) → m ≡ (Err e, view in_body mine t) → K t in_body mine → Agrees K R r m

pub agrees_at : {A B : Type 0} {K : ScopedState → Bool → List Number → Type 0} {R : ScopedState → A → B → Type 0} {r r' : Result A Broken × ScopedState} {m m' : Result B Broken × State} → r' ≡ r → m' ≡ m → Agrees K R r m → Agrees K R r' m'
agrees_at er em (agree a b t i n e d k q) = agree a b t i n (er ∙ e) (em ∙ d) k q
agrees_at er em (break x t i n e d k) = break x t i n (er ∙ e) (em ∙ d) k

pub agrees_bind : {A B C D : Type 0} {K : ScopedState → Bool → List Number → Type 0} {R : ScopedState → A → B → Type 0} {W : ScopedState → C → D → Type 0} {r : Result A Broken × ScopedState} {m : Result B Broken × State} {f : A → Step ScopedState C} (g : B → Step State D)
    → Agrees K R r m → ((a : A) (b : B) (t : ScopedState) (in_body : Bool) (mine : List Number) → K t in_body mine → R t a b → Agrees K W (f a t) (g b (view in_body mine t))) → Agrees K W (r >>= f) (m >>= g)
agrees_bind {f = f} g (agree a b t i n e d k q) next = agrees_at (ap (λ x. x >>= f) e) (ap (λ x. x >>= g) d) (next a b t i n k q)
agrees_bind {f = f} g (break x t i n e d k) next = break x t i n (ap (λ x. x >>= f) e) (ap (λ x. x >>= g) d) k

pub agrees_more : {A B : Type 0} {K L : ScopedState → Bool → List Number → Type 0} {R Q : ScopedState → A → B → Type 0} {r : Result A Broken × ScopedState} {m : Result B Broken × State}
    → ((t : ScopedState) (in_body : Bool) (mine : List Number) → K t in_body mine → L t in_body mine) → ((t : ScopedState) (a : A) (b : B) → R t a b → Q t a b) → Agrees K R r m → Agrees L Q r m
agrees_more h q (agree a b t i n e d k x) = agree a b t i n e d (h t i n k) (q t a b x)
agrees_more h q (break x t i n e d k) = break x t i n e d (h t i n k)

-- ---- later states keep what was there

module _ (w : Era) where
  abbrev pub Keeps : ScopedState → ScopedState → Bool → List Number → Type 0
  Keeps s t in_body mine = FineState w t × Grows w s t

  pub keeps_itself : (s : ScopedState) → FineState w s → (in_body : Bool) (mine : List Number) → Keeps s s in_body mine
  keeps_itself s f i n = (f, grows_itself w s)

  pub keeps_bind : {A B C D : Type 0} {R : ScopedState → A → B → Type 0} {W : ScopedState → C → D → Type 0} {r : Result A Broken × ScopedState} {m : Result B Broken × State} {f : A → Step ScopedState C} (s : ScopedState) (g : B → Step State D)
      → Agrees (Keeps s) R r m → ((a : A) (b : B) (t : ScopedState) (in_body : Bool) (mine : List Number) → Keeps s t in_body mine → R t a b → Agrees (Keeps t) W (f a t) (g b (view in_body mine t))) → Agrees (Keeps s) W (r >>= f) (m >>= g)
  keeps_bind {W = W} {f = f} s g h next =
      agrees_bind g h (λ a b t i n k q. agrees_more {K = Keeps t} {L = Keeps s} {R = W} {Q = W} (λ v i' n' l. (l.0, grows_then w s t v k.1 l.1)) (λ v c d x. x) (next a b t i n k q))

  -- both give the same
  abbrev pub Same : {A : Type 0} → ScopedState → Result A Broken × ScopedState → Result A Broken × State → Type 0
  Same s r m = Agrees (Keeps s) (λ t a b. a ≡ b) r m

  pub same_done : {A : Type 0} (s : ScopedState) (in_body : Bool) (mine : List Number) (a b : A) → FineState w s → a ≡ b → Agrees (Keeps s) (λ (t : ScopedState) (x : A) (y : A). x ≡ y) (Ok a, s) (Ok b, view in_body mine s)
  same_done s i n a b f e = agree a b s i n refl refl (f, grows_itself w s) e

  pub same_fails : {A B : Type 0} {R : ScopedState → A → B → Type 0} (s : ScopedState) (in_body : Bool) (mine : List Number) (here : Here) (e : Fault Ident) → FineState w s → Agrees (Keeps s) R (fails here e s) (fails here e (view in_body mine s))
  same_fails s i n here e f = break (record { fault = e; here = here }) s i n refl refl (f, grows_itself w s)

  -- ---- readings

  -- what both sides read, and that it was made by then
  abbrev pub Seen : (k : Kind) → Frames → ScopedState → k.of Ident → k.of Name → Type 0
  Seen k fs t a b = Made k w t.uses a × (b ≡ k.map Ident Name (names t fs) a)

  erased_fault : (s : ScopedState) (fs : Frames) (e : Fault Ident) → fault_map erase (fault_map (names s fs) e) ≡ fault_map (λ i. i) e
  erased_fault s fs e =
      faults_fused Ident Name Ident erase (names s fs) e ∙ ap (λ (h : Ident → Ident). fault_map h e) (pointwise (λ i. erase (names s fs i)) (λ i. i) (λ i. erase_frame_image s.places s.definitions fs i))

  module _ (k : Kind) (here : Here) (fs : Frames) (s : ScopedState) (f : FineState w s) (in_body : Bool) (mine : List Number) where
    -- over what was made by then, on the scoped side, and on the definition's
    read_cases : (r0 : Result (k.of (Old w s.uses)) (Fault (Old w s.uses)))
        → Agrees (Keeps s) (Seen k fs) (given (λ i. i) here (result_map (ident_of w s.uses) (k.map (Old w s.uses) Ident (ident_of w s.uses)) r0) s) (given erase here (result_map (names s fs) (k.map Ident Name (names s fs)) (result_map (ident_of w s.uses) (k.map (Old w s.uses) Ident (ident_of w s.uses)) r0)) (view in_body mine s))
    read_cases (Ok x) =
        agree (k.map (Old w s.uses) Ident (ident_of w s.uses) x) (k.map Ident Name (names s fs) (k.map (Old w s.uses) Ident (ident_of w s.uses) x)) s in_body mine refl refl (keeps_itself s f in_body mine)
        (record { clock = s.uses; earlier = leq_itself s.uses; made = x; same = refl }, refl)
    read_cases (Err e) =
        break (record { fault = fault_map (λ i. i) (fault_map (ident_of w s.uses) e); here = here }) s in_body mine refl
        (ap (λ (d : Fault Ident). (Err (record { fault = d; here = here }), view in_body mine s)) (erased_fault s fs (fault_map (ident_of w s.uses) e))) (keeps_itself s f in_body mine)

    pub read_both : (r0 : Result (k.of (Old w s.uses)) (Fault (Old w s.uses))) (r : Result (k.of Ident) (Fault Ident)) (r' : Result (k.of Name) (Fault Name))
        → Reads (ident_of w s.uses) (k.map (Old w s.uses) Ident (ident_of w s.uses)) r0 r → Reads (names s fs) (k.map Ident Name (names s fs)) r r' → Agrees (Keeps s) (Seen k fs) (given (λ i. i) here r s) (given erase here r' (view in_body mine s))
    read_both r0 r r' (reads e) (reads d) =
        agrees_at (ap (λ x. given (λ i. i) here x s) e) (ap (λ x. given erase here x (view in_body mine s)) (d ∙ ap (result_map (names s fs) (k.map Ident Name (names s fs))) e)) (read_cases r0)
