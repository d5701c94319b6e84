-- Steps on both sides: where the first comes to a value, so does the second, renumbered, and their states still correspond.
use Rattle.std.proofs.Common.{◌≡◌, ℕ, zero, suc, ◌+◌, Bool, true, false, cond, Option, Some, None, Result, Ok, Err, refl, sym, ap, ◌∙◌, subst}
use Rattle.std.specs.Prelude.{nat_le}
use Rattle.scheme_model.specs.declared.Occ.{Occ}
use Rattle.scheme_model.specs.Ident.{Ident, Written, Inserted}
use Rattle.scheme_model.specs.Trees.{Tree, name, atom, list, vector}
use Rattle.scheme_model.specs.ExpansionFaults.{Fault, NodeBudget}
use Rattle.scheme_model.specs.Steps.{Broken, Step, ◌>>=◌, done, fails}
use Rattle.scheme_model.specs.Order.{Here, given, counting, max_nodes, read_name, or_here, here_at}
use Rattle.scheme_model.specs.Expression.{node}
use Rattle.renumbering_laws.specs.Moving.{Change, move_tree}
use Rattle.renumbering_laws.specs.Renumbering.{place, ident, with_places, broken_as, result_as}
use Rattle.renumbering_laws.proofs.MovedParts.{move_result, Moves}
use Rattle.renumbering_laws.proofs.Sides.{Sides}
use Rattle.renumbering_laws.proofs.MovingSteps.{Reads, reads}
use Rattle.renumbering_laws.proofs.Turned.{fault_turned}

module _ (h : Sides) where
  -- what becomes of identifiers and of places
  abbrev pub moved : Change h.A h.A'
  moved = with_places h.r h.on

  pub told : Moves moved h.one.names h.two.names
  told = record { same = h.same; strip = h.strip }

  -- ---- steps

  pub data Goes {V W : Type 0} (g : V → W) (q : Result V Broken × h.S) (q' : Result W Broken × h.S') : Type 0 where
    goes : q'.0 ≡ result_as h.r g q.0 → h.state q.1 q'.1 → Goes g q q'

  pub goes_at : {V W : Type 0} {g : V → W} {q : Result V Broken × h.S} {q' q2 : Result W Broken × h.S'} → q2 ≡ q' → Goes g q q' → Goes g q q2
  goes_at {V} {W} {g} {q} d x = subst (λ z. Goes g q z) (sym d) x

  bind_from : {V W Y Z : Type 0} (g : V → W) (f : Y → Z) (x : Result V Broken) (t : h.S) (t' : h.S') (k : V → Step h.S Y) (k' : W → Step h.S' Z) → h.state t t'
      → ((v : V) (u : h.S) (u' : h.S') → h.state u u' → Goes f (k v u) (k' (g v) u')) → Goes f ((x, t) >>= k) ((result_as h.r g x, t') >>= k')
  bind_from g f (Ok v) t t' k k' m next = next v t t' m
  bind_from g f (Err e) t t' k k' m next = goes refl m

  pub goes_bind : {V W Y Z : Type 0} {g : V → W} {f : Y → Z} {q : Result V Broken × h.S} {q' : Result W Broken × h.S'} (k : V → Step h.S Y) (k' : W → Step h.S' Z)
      → Goes g q q' → ((v : V) (u : h.S) (u' : h.S') → h.state u u' → Goes f (k v u) (k' (g v) u')) → Goes f (q >>= k) (q' >>= k')
  goes_bind {g = g} {f = f} {q = q} {q' = q'} k k' (goes e m) next =
      goes_at (ap (λ z. (z, q'.1) >>= k') e) (bind_from g f q.0 q.1 q'.1 k k' m next)

  -- ---- steps whose values are related

  abbrev pub Values : {V W : Type 0} → (V → W → Type 0) → Result V Broken → Result W Broken → Type 0
  Values G (Ok v) (Ok w) = G v w
  Values G (Ok v) (Err y) = ⊥
  Values G (Err x) (Ok w) = ⊥
  Values G (Err x) (Err y) = y ≡ broken_as h.r x

  abbrev pub Meets : {V W : Type 0} → (V → W → Type 0) → Result V Broken × h.S → Result W Broken × h.S' → Type 0
  Meets G q q' = Values G q.0 q'.0 × h.state q.1 q'.1

  pub meets_at : {V W : Type 0} (G : V → W → Type 0) (q : Result V Broken × h.S) {q' q2 : Result W Broken × h.S'} → q2 ≡ q' → Meets G q q' → Meets G q q2
  meets_at G q d x = subst (λ z. Meets G q z) (sym d) x

  meets_from : {V W Y Z : Type 0} (G : V → W → Type 0) (H : Y → Z → Type 0) (x : Result V Broken) (x' : Result W Broken) (t : h.S) (t' : h.S') (k : V → Step h.S Y) (k' : W → Step h.S' Z) → Values G x x' → h.state t t'
      → ((v : V) (w : W) → G v w → (u : h.S) (u' : h.S') → h.state u u' → Meets H (k v u) (k' w u')) → Meets H ((x, t) >>= k) ((x', t') >>= k')
  meets_from G H (Ok v) (Ok w) t t' k k' g m next = next v w g t t' m
  meets_from G H (Ok v) (Err y) t t' k k' g m next = absurd g
  meets_from G H (Err x) (Ok w) t t' k k' g m next = absurd g
  meets_from G H (Err x) (Err y) t t' k k' g m next = (g, m)

  pub meets_bind : {V W Y Z : Type 0} (G : V → W → Type 0) (H : Y → Z → Type 0) (q : Result V Broken × h.S) (q' : Result W Broken × h.S') (k : V → Step h.S Y) (k' : W → Step h.S' Z) → Meets G q q'
      → ((v : V) (w : W) → G v w → (u : h.S) (u' : h.S') → h.state u u' → Meets H (k v u) (k' w u')) → Meets H (q >>= k) (q' >>= k')
  meets_bind G H q q' k k' m next = meets_from G H q.0 q'.0 q.1 q'.1 k k' m.0 m.1 next

  abbrev pub Told : {V W : Type 0} → (V → W) → V → W → Type 0
  Told g v w = w ≡ g v

  values_from : {V W : Type 0} (g : V → W) (x : Result V Broken) → Values (Told g) x (result_as h.r g x)
  values_from g (Ok v) = refl
  values_from g (Err e) = refl

  pub meets_of : {V W : Type 0} {g : V → W} {q : Result V Broken × h.S} {q' : Result W Broken × h.S'} → Goes g q q' → Meets (Told g) q q'
  meets_of {g = g} {q = q} {q' = q'} (goes e m) = (subst (λ z. Values (Told g) q.0 z) (sym e) (values_from g q.0), m)

  told_from : {V W : Type 0} (g : V → W) (x : Result V Broken) (x' : Result W Broken) → Values (Told g) x x' → x' ≡ result_as h.r g x
  told_from g (Ok v) (Ok w) e = ap (λ z. Ok z) e
  told_from g (Ok v) (Err y) e = absurd e
  told_from g (Err x) (Ok w) e = absurd e
  told_from g (Err x) (Err y) e = ap (λ z. Err z) e

  pub goes_of : {V W : Type 0} {g : V → W} {q : Result V Broken × h.S} {q' : Result W Broken × h.S'} → Meets (Told g) q q' → Goes g q q'
  goes_of {g = g} {q = q} {q' = q'} m = goes (told_from g q.0 q'.0 m.0) m.1

  -- something that was read
  pub goes_read : {X Y : Type 0} {g : X → Y} {x : Result X (Fault h.A)} {x' : Result Y (Fault h.A')} (here : Here) (s : h.S) (s' : h.S') → h.state s s' → Reads moved g x x' → Goes g (given h.one.plain here x s) (given h.two.plain (place h.r here) x' s')
  goes_read {X} {Y} {g} {x} here s s' m (reads e) = goes_at (ap (λ z. given h.two.plain (place h.r here) z s') e) (go x)
    where
      go : (y : Result X (Fault h.A)) → Goes g (given h.one.plain here y s) (given h.two.plain (place h.r here) (move_result moved g y) s')
      go (Ok y) = goes refl m
      go (Err y) = goes (ap (λ z. Err (record { fault = z; here = place h.r here })) (fault_turned h.A h.A' Ident Ident (place h.r) h.on (ident h.r) h.one.plain h.two.plain h.plain y)) m

  -- ---- the place of the innermost form that was read

  read_seen : (i : Ident) (o : Option Occ) (here : Here) → read_name (ident h.r i) (place h.r o) (place h.r here) ≡ place h.r (read_name i o here)
  read_seen (Written u x) (Some o) here = refl
  read_seen (Written u x) None here = refl
  read_seen (Inserted i k) o here = refl

  or_seen : (o : Option Occ) (here : Here) → or_here (place h.r o) (place h.r here) ≡ place h.r (or_here o here)
  or_seen None here = refl
  or_seen (Some o) here = refl

  pub here_seen : (t : Tree h.A) (here : Here) → here_at h.two.plain (move_tree moved t) (place h.r here) ≡ place h.r (here_at h.one.plain t here)
  here_seen (name i o) here = ap (λ x. read_name x (place h.r o) (place h.r here)) (h.plain i) ∙ read_seen (h.one.plain i) o here
  here_seen (atom a o) here = or_seen o here
  here_seen (list ts tail o) here = or_seen o here
  here_seen (vector ts o) here = or_seen o here

  -- ---- counts

  abbrev pub same_unit : Unit {0} → Unit {0}
  same_unit u = u

  pub counting_goes : (here : Here) (n : ℕ) (s : h.S) (s' : h.S') → h.state s s' → Goes same_unit (counting h.one here n s) (counting h.two (place h.r here) n s')
  counting_goes here n s s' m =
      goes_at (ap (λ c. cond (nat_le (c.nodes + n) max_nodes) (done tt (h.two.spend n s')) (fails (place h.r here) NodeBudget s')) (h.counted s s' m)) (go (nat_le ((h.one.counted s).nodes + n) max_nodes))
    where
      go : (t : Bool) → Goes same_unit (cond t (done tt (h.one.spend n s)) (fails here NodeBudget s)) (cond t (done tt (h.two.spend n s')) (fails (place h.r here) NodeBudget s'))
      go true = goes refl (h.spend n s s' m)
      go false = goes refl m

  pub counted_goes : {V W : Type 0} {g : V → W} (here : Here) (n : ℕ) (s : h.S) (s' : h.S') → h.state s s' → (k : Step h.S V) (k' : Step h.S' W)
      → ((u : h.S) (u' : h.S') → h.state u u' → Goes g (k u) (k' u')) → Goes g (counting h.one here n s >>= λ u. k) (counting h.two (place h.r here) n s' >>= λ u. k')
  counted_goes here n s s' m k k' next = goes_bind (λ u. k) (λ u. k') (counting_goes here n s s' m) (λ v u u' l. next u u' l)

  pub node_goes : {V W : Type 0} {g : V → W} (here : Here) (n depth : ℕ) (s : h.S) (s' : h.S') → h.state s s' → (parts : ℕ → Step h.S V) (parts' : ℕ → Step h.S' W)
      → ((below : ℕ) (u : h.S) (u' : h.S') → h.state u u' → Goes g (parts below u) (parts' below u')) → Goes g (node h.one here n depth parts s) (node h.two (place h.r here) n depth parts' s')
  node_goes here n zero s s' m parts parts' next = goes refl m
  node_goes here n (suc depth) s s' m parts parts' next = counted_goes here n s s' m (parts depth) (parts' depth) (next depth)
