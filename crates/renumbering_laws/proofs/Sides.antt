-- Two records of operations, of which the second does what the first does, renumbered. The states and the environments of both are
-- related; their identifiers are told by a function.
use Rattle.std.proofs.Common.{◌≡◌, ℕ, List, [], ◌∷◌, Option, Some, None, Result, Ok, Err}
use Rattle.scheme_model.specs.Identifiers.{Number}
use Rattle.scheme_model.specs.Ident.{Ident}
use Rattle.scheme_model.specs.Trees.{Trees}
use Rattle.scheme_model.specs.ExpansionFaults.{Named, Fault}
use Rattle.scheme_model.specs.Meaning.{Meaning}
use Rattle.scheme_model.specs.RulesShape.{Rules, option_map}
use Rattle.scheme_model.specs.Cores.{Target, MacroUse}
use Rattle.scheme_model.specs.Requirements.{LibraryName}
use Rattle.scheme_model.specs.Order.{Pending, Renamed, Region, Transformer, Asked, Meant, Headed, RulesOf, Alike, Assigns, Library, Ops}
use Rattle.renumbering_laws.specs.Moving.{Change, move_trees, move_named, move_fault, move_rules}
use Rattle.renumbering_laws.specs.Renumbering.{Renumbering, IsOneToOne, number, ident, meaning, change, with_places, target, bound, macro_use_as, counted_as, pending_as}

-- what comes of a definition on both sides: what is pending reads so, and so does each name; or the same fault
pub record RenamedMoves {A A' L L' : Type 0} (r : Renumbering) (on : A → A') (look : L → L') (p : Renamed A L) (q : Renamed A' L') : Type 0 where
  pub pending : q.pending ≡ pending_as r on look p.pending
  pub rename : (i : A) → q.rename (on i) ≡ on (p.rename i)

abbrev pub DefinedMoves : {A A' L L' : Type 0} → Renumbering → (A → A') → (L → L') → Result (Renamed A L) (Fault Ident) → Result (Renamed A' L') (Fault Ident) → Type 0
DefinedMoves r on look (Ok p) (Ok q) = RenamedMoves r on look p q
DefinedMoves r on look (Ok p) (Err e) = ⊥
DefinedMoves r on look (Err e) (Ok q) = ⊥
DefinedMoves r on look (Err e) (Err d) = d ≡ move_fault (change r) e

-- a macro on both sides
pub data Macros {E E' A A' : Type 0} (around : E → E' → Type 0) (f : Change A A') : Option (Transformer E A) → Option (Transformer E' A') → Type 0 where
  no_macro : Macros around f None None
  a_macro : (m : Transformer E A) (e : E') → around m.env e → Macros around f (Some m) (Some (record { env = e; rules = move_rules f m.rules }))

-- a region on both sides
pub data Regions {E E' A A' S S' : Type 0} (around : E → E' → Type 0) (f : Change A A') (state : S → S' → Type 0) (x : Region E A S) (y : Region E' A' S') : Type 0 where
  regions : around x.env y.env → y.trees ≡ move_trees f x.trees → state x.state y.state → Regions around f state x y

-- a question on both sides
pub data AskedMoves {E E' A A' : Type 0} (r : Renumbering) (on : A → A') (around : E → E' → Type 0) : Asked E A → Asked E' A' → Type 0 where
  meant : (e : E) (e' : E') → around e e' → (i : A) → AskedMoves r on around (Meant e i) (Meant e' (on i))
  headed : (e : E) (e' : E') → around e e' → (i : A) → AskedMoves r on around (Headed e i) (Headed e' (on i))
  rules_of : (m : Meaning) → AskedMoves r on around (RulesOf m) (RulesOf (meaning r m))
  alike : (d : E) (d' : E') → around d d' → (l : A) (e : E) (e' : E') → around e e' → (i : A) → AskedMoves r on around (Alike d l e i) (Alike d' (on l) e' (on i))
  assigns : (e : E) (e' : E') → around e e' → (i : A) → AskedMoves r on around (Assigns e i) (Assigns e' (on i))
  library : (n : LibraryName) → AskedMoves r on around (Library n) (Library n)

-- one by one
abbrev pub All : {X Y : Type 0} → (X → Y → Type 0) → List X → List Y → Type 0
All R [] [] = Unit {0}
All R [] (y ∷ ys) = ⊥
All R (x ∷ xs) [] = ⊥
All R (x ∷ xs) (y ∷ ys) = R x y × All R xs ys

pub record Sides : Type 1 where
  pub r : Renumbering
  pub one_to_one : IsOneToOne r
  pub E : Type 0
  pub A : Type 0
  pub L : Type 0
  pub S : Type 0
  pub E' : Type 0
  pub A' : Type 0
  pub L' : Type 0
  pub S' : Type 0
  pub one : Ops E A L S
  pub two : Ops E' A' L' S'
  -- what becomes of an identifier, and of what a note keeps of it; and the unit at work
  pub on : A → A'
  pub look : L → L'
  pub unit : ℕ
  -- environments and states of both
  pub around : E → E' → Type 0
  pub state : S → S' → Type 0
  pub same : (i j : A) → two.names.same (on i) (on j) ≡ one.names.same i j
  pub strip : (i : A) → two.names.strip (on i) ≡ one.names.strip i
  pub plain : (i : A) → two.plain (on i) ≡ ident r (one.plain i)
  pub insert : (i : A) (k : Number) → two.insert (on i) (number r k) ≡ on (one.insert i k)
  pub place : (e : E) (e' : E') → around e e' → (i : A) → two.place e' (on i) ≡ look (one.place e i)
  pub means : (e : E) (e' : E') → around e e' → (s : S) (s' : S') → state s s' → (i : A) → two.means e' s' (on i) ≡ meaning r (one.means e s i)
  pub transformer : (s : S) (s' : S') → state s s' → (m : Meaning) → Macros around (with_places r on) (one.transformer s m) (two.transformer s' (meaning r m))
  pub known : two.known ≡ one.known
  -- the second is asked the same, renumbered
  pub ask : (qs : List (Asked E A)) (qs' : List (Asked E' A')) → All (AskedMoves r on around) qs qs' → (s : S) (s' : S') → state s s' → state (one.ask qs s) (two.ask qs' s')
  pub is_assigned : (e : E) (e' : E') → around e e' → (s : S) (s' : S') → state s s' → (i : A) → two.is_assigned e' s' (on i) ≡ one.is_assigned e s i
  pub counted : (s : S) (s' : S') → state s s' → two.counted s' ≡ counted_as r (one.counted s)
  pub turn : (f : ℕ) (s : S) (s' : S') → state s s' → state (one.turn f s) (two.turn (r.form unit f) s')
  pub spend : (n : ℕ) (s : S) (s' : S') → state s s' → state (one.spend n s) (two.spend n s')
  pub meet : (t : Target) (s : S) (s' : S') → state s s' → state (one.meet t s) (two.meet (target r t) s')
  pub meet_use : (u : MacroUse) (s : S) (s' : S') → state s s' → state (one.meet_use u s) (two.meet_use (macro_use_as r u) s')
  pub next_use : (s : S) (s' : S') → state s s' → two.next_use s' ≡ number r (one.next_use s)
  pub begin_use : (e : E) (e' : E') → around e e' → (s : S) (s' : S') → state s s' → state (one.begin_use e s) (two.begin_use e' s')
  pub next_local : (s : S) (s' : S') → state s s' → two.next_local s' ≡ number r (one.next_local s)
  pub take_local : (s : S) (s' : S') → state s s' → state (one.take_local s) (two.take_local s')
  pub next_bound : (e : E) (e' : E') → around e e' → (s : S) (s' : S') → state s s' → two.next_bound e' s' ≡ bound r (one.next_bound e s)
  pub bind : (i : A) (e : E) (e' : E') → around e e' → (ts : Trees A) (s : S) (s' : S') → state s s' → Regions around (with_places r on) state (one.bind i e ts s) (two.bind (on i) e' (move_trees (with_places r on) ts) s')
  pub keep : (v : Number) (rules : Rules A) (e : E) (e' : E') → around e e' → (s : S) (s' : S') → state s s' → state (one.keep v rules e s) (two.keep (number r v) (move_rules (with_places r on) rules) e' s')
  pub enter : (e : E) (e' : E') → around e e' → (ts : Trees A) (s : S) (s' : S') → state s s' → Regions around (with_places r on) state (one.enter e ts s) (two.enter e' (move_trees (with_places r on) ts) s')
  pub define : (n : Named A) (rules : Option (Rules A)) (e : E) (e' : E') → around e e' → (p : Pending A L) (s : S) (s' : S') → state s s'
      → let q = one.define n rules e p s in let q' = two.define (move_named (with_places r on) n) (option_map (move_rules (with_places r on)) rules) e' (pending_as r on look p) s' in
      DefinedMoves r on look q.0 q'.0 × state q.1 q'.1
