-- Heads, targets, places, macros and nodes: what both sides tell of them.
use Rattle.std.proofs.Common.{◌≡◌, ℕ, zero, suc, ◌+◌, List, [], ◌∷◌, map, Bool, true, false, cond, Option, Some, None, Result, refl, ap, ◌∙◌}
use Rattle.std.specs.Prelude.{nat_le}
use Rattle.scheme_model.specs.declared.Occ.{Occ}
use Rattle.scheme_model.specs.Identifiers.{Number, Name}
use Rattle.scheme_model.specs.Ident.{Ident, erase}
use Rattle.scheme_model.specs.Trees.{Tree, name, atom, list, vector, map_tree}
use Rattle.scheme_model.specs.ExpansionFaults.{NodeBudget, DepthBudget}
use Rattle.scheme_model.specs.Keywords.{CoreKeyword, Auxiliary, core_named, auxiliary_named}
use Rattle.scheme_model.specs.Meaning.{Meaning, Local, Global, Standard, Free, Head, IsCore, IsAuxiliary, IsMacro, IsNone, macro_or_none, other_standard, standard_head, head_as, same_meaning}
use Rattle.scheme_model.specs.Requirements.{Known}
use Rattle.scheme_model.specs.RulesShape.{rules_map, option_map}
use Rattle.scheme_model.specs.Steps.{Broken, Step, ◌>>=◌, done, fails}
use Rattle.scheme_model.specs.Order.{Here, Transformer, is_some, target_of, head_of, read_name, here_at, counting, max_nodes}
use Rattle.scheme_model.specs.Expression.{node}
use Rattle.scheme_model.specs.Substitution.{State, Clock, at_form, rules_at, transformer_of, model}
use Rattle.scheme_model.specs.ScopedExpansion.{Frames, BodyDefinitions, UsePlace, ScopedMacro, ScopedState, macro_at, scoped}
use Rattle.scheme_model.specs.FrameImages.{frame_image}
use Rattle.scheme_model.proofs.OpenBodies.{Entered}
use Rattle.model_laws.proofs.FrameEras.{Era, Before}
use Rattle.model_laws.proofs.IdentKinds.{rules_kind}
use Rattle.model_laws.proofs.FrameNames.{erase_frame_image}
use Rattle.model_laws.proofs.FrameAsks.{AllOf, BindersCounted}
use Rattle.model_laws.proofs.FrameStates.{names, seen_macro, view, Made, MacroFine, FineState, names_mean}
use Rattle.model_laws.proofs.FrameAgrees.{Agrees, Keeps, same_fails}

-- ---- macros

abbrev pub seen_transformer : List UsePlace → BodyDefinitions → Transformer Frames Ident → Transformer (Unit {0}) Name
seen_transformer ps ds m = record { env = tt; rules = rules_map (frame_image ps ds m.env) m.rules }

pub transformer_seen : (ps : List UsePlace) (ds : BodyDefinitions) (ks : List ScopedMacro) (m : Meaning) → transformer_of (rules_at (map (seen_macro ps ds) ks) m) ≡ option_map (seen_transformer ps ds) (macro_at ks m)
transformer_seen ps ds [] m = refl
transformer_seen ps ds (k ∷ ks) m = go (same_meaning k.meaning m) (transformer_seen ps ds ks m)
  where
    go : (t : Bool) → transformer_of (rules_at (map (seen_macro ps ds) ks) m) ≡ option_map (seen_transformer ps ds) (macro_at ks m)
        → transformer_of (cond t (Some (rules_map (frame_image ps ds k.frames) k.rules)) (rules_at (map (seen_macro ps ds) ks) m)) ≡ option_map (seen_transformer ps ds) (cond t (Some (record { env = k.frames; rules = k.rules })) (macro_at ks m))
    go true e = refl
    go false e = e

some_mapped : {X Y : Type 0} (h : X → Y) (o : Option X) → is_some (option_map h o) ≡ is_some o
some_mapped h None = refl
some_mapped h (Some x) = refl

-- what holds of a macro, where there is one
abbrev pub IfMacro : {X : Type 0} → (X → Type 0) → Option X → Type 0
IfMacro P None = Unit {0}
IfMacro P (Some x) = P x

-- a macro by a head is what the identifier means
abbrev pub HeadOf : Meaning → Head → Type 0
HeadOf m (IsCore k) = Unit {0}
HeadOf m (IsAuxiliary a) = Unit {0}
HeadOf m (IsMacro x) = x ≡ m
HeadOf m IsNone = Unit {0}

by_macro : (t : Bool) (m : Meaning) → HeadOf m (macro_or_none t m)
by_macro true m = refl
by_macro false m = tt

by_other : (a : Option Auxiliary) (t : Bool) (m : Meaning) → HeadOf m (other_standard a t m)
by_other (Some a) t m = tt
by_other None t m = by_macro t m

by_standard : (k : Option CoreKeyword) (a : Option Auxiliary) (t : Bool) (m : Meaning) → HeadOf m (standard_head k a t m)
by_standard (Some k) a t m = tt
by_standard None a t m = by_other a t m

pub head_is : (f : Meaning → Bool) (m : Meaning) → HeadOf m (head_as f m)
head_is f (Local v) = by_macro (f (Local v)) (Local v)
head_is f (Global u i) = by_macro (f (Global u i)) (Global u i)
head_is f (Standard s) = by_standard (core_named s) (auxiliary_named s) (f (Standard s)) (Standard s)
head_is f (Free s) = tt

module _ (w : Era) where
  pub record TransformerFine (s : ScopedState) (m : Transformer Frames Ident) : Type 0 where
    pub entered : Entered (Before w s.bodies) m.env
    pub rules : Made rules_kind w s.uses m.rules
    pub binders : BindersCounted w s.locals m.env

  found_among : (s : ScopedState) (ks : List ScopedMacro) → AllOf (MacroFine w s.locals s.uses s.bodies) ks → (m : Meaning) → IfMacro (TransformerFine s) (macro_at ks m)
  found_among s [] h m = tt
  found_among s (k ∷ ks) h m = go (same_meaning k.meaning m) (found_among s ks h.1 m)
    where
      go : (t : Bool) → IfMacro (TransformerFine s) (macro_at ks m) → IfMacro (TransformerFine s) (cond t (Some (record { env = k.frames; rules = k.rules })) (macro_at ks m))
      go true e = record { entered = h.0.entered; rules = h.0.rules; binders = h.0.binders }
      go false e = e

  pub macro_found : (s : ScopedState) → FineState w s → (m : Meaning) → IfMacro (TransformerFine s) (macro_at s.macros m)
  macro_found s f m = found_among s s.macros f.1.macros m

  -- ---- identifiers

  module _ (known : Known) (s : ScopedState) (f : FineState w s) (in_body : Bool) (mine : List Number) (fs : Frames) where
    pub head_seen : (i : Ident) → head_of (model known) tt (view in_body mine s) (names s fs i) ≡ head_of (scoped known) fs s i
    head_seen i =
        let macros : (m : Meaning) → is_some (transformer_of (rules_at (map (seen_macro s.places s.definitions) s.macros) m)) ≡ is_some (macro_at s.macros m) =
        (λ m. ap is_some (transformer_seen s.places s.definitions s.macros m) ∙ some_mapped (seen_transformer s.places s.definitions) (macro_at s.macros m)) in
        let mean = names_mean w s f fs i in
        λ j. head_as (λ m. macros m j) (mean j)

    pub target_seen : (i : Ident) (o : Option Occ) → target_of (model known) tt (view in_body mine s) (names s fs i) o ≡ target_of (scoped known) fs s i o
    target_seen i o =
        let mean = names_mean w s f fs i in let plain = erase_frame_image s.places s.definitions fs i in
        λ j. record { meaning = mean j; ident = plain j; occ = o }

  pub here_seen : (s : ScopedState) (fs : Frames) (t : Tree Ident) (here : Here) → here_at erase (map_tree (names s fs) t) here ≡ here_at (λ i. i) t here
  here_seen s fs (name i o) here = ap (λ x. read_name x o here) (erase_frame_image s.places s.definitions fs i)
  here_seen s fs (atom a o) here = refl
  here_seen s fs (list ts tail o) here = refl
  here_seen s fs (vector ts o) here = refl

  -- ---- nodes

  -- what counting comes to
  abbrev within : {S : Type 0} → Here → Bool → S → S → Result (Unit {0}) Broken × S
  within here t after s = cond t (done tt after) (fails here NodeBudget s)

  node_goes : {A B : Type 0} {R : ScopedState → A → B → Type 0} (known : Known) (here : Here) (n : ℕ) (s : ScopedState) → FineState w s → (in_body : Bool) (mine : List Number) (below : ℕ) (parts : ℕ → Step ScopedState A) (parts' : ℕ → Step State B)
      → ((x : Clock) → Agrees (Keeps w s) R (parts below (record s { nodes = x })) (parts' below (view in_body mine (record s { nodes = x }))))
      → (t : Bool) → Agrees (Keeps w s) R (within here t (record s { nodes = at_form s.form (λ m. m + n) s.nodes }) s >>= λ u. parts below) (within here t (view in_body mine (record s { nodes = at_form s.form (λ m. m + n) s.nodes })) (view in_body mine s) >>= λ u. parts' below)
  node_goes known here n s f i ns below parts parts' h true = h (at_form s.form (λ m. m + n) s.nodes)
  node_goes known here n s f i ns below parts parts' h false = same_fails w s i ns here NodeBudget f

  -- a node of so many nodes begins on both sides
  pub node_law : {A B : Type 0} {R : ScopedState → A → B → Type 0} (known : Known) (here : Here) (n depth : ℕ) (s : ScopedState) → FineState w s → (in_body : Bool) (mine : List Number) (parts : ℕ → Step ScopedState A) (parts' : ℕ → Step State B)
      → ((below : ℕ) (x : Clock) → Agrees (Keeps w s) R (parts below (record s { nodes = x })) (parts' below (view in_body mine (record s { nodes = x }))))
      → Agrees (Keeps w s) R (node (scoped known) here n depth parts s) (node (model known) here n depth parts' (view in_body mine s))
  node_law known here n zero s f i ns parts parts' h = same_fails w s i ns here DepthBudget f
  node_law known here n (suc depth) s f i ns parts parts' h = node_goes known here n s f i ns depth parts parts' (h depth) (nat_le (s.nodes s.form + n) max_nodes)

  -- nodes are counted on both sides, and then a step
  pub counted_law : {A B : Type 0} {R : ScopedState → A → B → Type 0} (known : Known) (here : Here) (n : ℕ) (s : ScopedState) → FineState w s → (in_body : Bool) (mine : List Number) (go : Step ScopedState A) (go' : Step State B)
      → ((x : Clock) → Agrees (Keeps w s) R (go (record s { nodes = x })) (go' (view in_body mine (record s { nodes = x }))))
      → Agrees (Keeps w s) R (counting (scoped known) here n s >>= λ u. go) (counting (model known) here n (view in_body mine s) >>= λ u. go')
  counted_law known here n s f i ns go go' h = node_goes known here n s f i ns 0 (λ below. go) (λ below. go') h (nat_le (s.nodes s.form + n) max_nodes)
