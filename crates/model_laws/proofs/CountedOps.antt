-- Expansion of one form over identifiers, frames and states that hold what is said of the form: a third side, of which both that by
-- counts and that by whole numbers are the image. So the two are one.
use Rattle.std.proofs.Common.{◌≡◌, ℕ, suc, ◌+◌, ◌≤◌, List, ◌∷◌, map, Bool, true, false, Option, Some, None, Result, Ok, Err, refl, ap, ◌∙◌}
use Rattle.std.specs.Prelude.{◌&&◌, if◌then◌else◌}
use Rattle.scheme_model.specs.Identifiers.{Number}
use Rattle.scheme_model.specs.Ident.{Ident, Inserted, same_ident, symbol_of}
use Rattle.scheme_model.specs.ExpansionFaults.{Named, named_map, Fault, KeywordRedefined, Duplicate}
use Rattle.scheme_model.specs.Meaning.{Meaning, Local, Global}
use Rattle.scheme_model.specs.Requirements.{Known}
use Rattle.scheme_model.specs.RulesShape.{Names, Rules, rules_map, option_map}
use Rattle.scheme_model.specs.Cores.{Target, MacroUse, Bound, LocalNumber, Definition}
use Rattle.scheme_model.specs.Steps.{Broken, Step, ◌>>=◌}
use Rattle.scheme_model.specs.Order.{Here, Note, Pending, Renamed, Transformer, Ops, is_some, given}
use Rattle.scheme_model.specs.Substitution.{Clock, at_form, note_map, pending_map, any, unchanged}
use Rattle.scheme_model.specs.ScopedExpansion.{Frames, Bind, Enter, FramedIdent, ScopedState, next_number, means_at, macro_at, body_around, bound_next, assigned, definition_added, meaning_next, is_defined, refused_now, scoped}
use Rattle.scheme_model.specs.Renaming.{Renames, result_map}
use Rattle.scheme_model.proofs.RenamingLaws.{Reads, reads}
use Rattle.model_laws.proofs.IdentKinds.{rules_kind, faults_fused}
use Rattle.model_laws.proofs.FrameLeaves.{Held}
use Rattle.model_laws.proofs.FrameHeads.{IfMacro}

abbrev pub ToldBound : (Meaning → Bool) → Bound → Type 0
ToldBound told (LocalNumber v) = told (Local v) ≡ true
ToldBound told (Definition u n) = Unit {0}

-- What holds while a form is worked on: of the identifiers that stand in it, of the frames around them, and of states. `told` tells
-- the meanings that they can have, and `use_here` the numbers of the form's uses. A definition asks the notes of which `asks` holds.
pub record Setting : Type 1 where
  pub known : Known
  pub asks : Ident → Note FramedIdent → Bool
  pub stands : Ident → Type 0
  pub around : Frames → Type 0
  pub holds : ScopedState → Type 0
  pub told : Meaning → Bool
  pub use_here : Number → Bool
  pub insert : (i : Ident) → stands i → (k : Number) → use_here k ≡ true → stands (Inserted i k)
  pub next_use : (s : ScopedState) → holds s → use_here (next_number s s.uses) ≡ true
  pub still : (s : ScopedState) → holds s → (x : Clock) (y : ℕ → List Target) (z : ℕ → List MacroUse) → holds (record s { nodes = x; keywords = y; met = z })
  pub begin_use : (s : ScopedState) → holds s → (fs : Frames) → around fs → holds (record s { uses = at_form s.form suc s.uses; places = record { use_number = next_number s s.uses; frames = fs } ∷ s.places })
  pub take_local : (s : ScopedState) → holds s → holds (record s { locals = at_form s.form suc s.locals })
  pub bind : (s : ScopedState) → holds s → (fs : Frames) → around fs → (x : Ident) → around (Bind x (next_number s s.locals) ∷ fs)
  pub keep : (s : ScopedState) → holds s → (fs : Frames) → around fs → (v : Number) → told (Local v) ≡ true → (r : Rules Ident) → Held rules_kind stands r → holds (record s { macros = record { meaning = Local v; frames = fs; rules = r } ∷ s.macros })
  pub enter : (s : ScopedState) → holds s → (fs : Frames) → around fs → around (Enter (next_number s s.bodies) s.uses ∷ fs)
  pub entered : (s : ScopedState) → holds s → holds (record s { bodies = at_form s.form suc s.bodies })
  pub define : (s : ScopedState) → holds s → (fs : Frames) → around fs → (n : Named Ident) → stands n.name → (r : Option (Rules Ident)) → IfMacro (Held rules_kind stands) r → holds (definition_added (body_around fs) n r fs s)
  pub macro : (s : ScopedState) → holds s → (m : Meaning) → told m ≡ true → IfMacro (λ (x : Transformer Frames Ident). around x.env × Held rules_kind stands x.rules) (macro_at s.macros m)
  pub means : (s : ScopedState) → holds s → (fs : Frames) → around fs → (i : Ident) → stands i → told (means_at s fs i) ≡ true
  pub global : (u : ℕ) (i : Ident) → told (Global u i) ≡ true
  pub local : (s : ScopedState) → holds s → (n : ℕ) → s.locals s.form ≤ n → told (Local (record { unit = s.unit; form = s.form; count = n })) ≡ true

-- what is done of a value, where there is one
abbrev pub seen : {V W X : Type 0} → (V → W) → Result V X → Result W X
seen g (Ok v) = Ok (g v)
seen g (Err e) = Err e

module _ (c : Setting) where
  abbrev pub B : Type 0
  B = (i : Ident) × c.stands i

  abbrev pub D : Type 0
  D = (fs : Frames) × c.around fs

  abbrev pub T : Type 0
  T = (s : ScopedState) × c.holds s

  abbrev pub M : Type 0
  M = D × B

  abbrev pub ident : B → Ident
  ident p = p.0

  abbrev pub at : M → FramedIdent
  at l = record { frames = l.0.0; ident = l.1.0 }

  abbrev pub names_over : Names B
  names_over = record { same = λ p q. same_ident p.0 q.0; strip = λ p. symbol_of p.0 }

  abbrev pub identifiers : Names Ident
  identifiers = record { same = same_ident; strip = symbol_of }

  abbrev pub told_names : Renames ident names_over identifiers
  told_names = record { same = λ p q. refl; strip = λ p. refl }

  abbrev pub insert_if : (i : B) (k : Number) (t : Bool) → c.use_here k ≡ t → B
  insert_if i k true e = (Inserted i.0 k, c.insert i.0 i.1 k e)
  insert_if i k false e = i

  abbrev pub transformer_map : Transformer D B → Transformer Frames Ident
  transformer_map m = record { env = m.env.0; rules = rules_map ident m.rules }

  abbrev pub lift : (o : Option (Transformer Frames Ident)) → IfMacro (λ (x : Transformer Frames Ident). c.around x.env × Held rules_kind c.stands x.rules) o → Option (Transformer D B)
  lift None h = None
  lift (Some x) h = Some (record { env = (x.env, h.0); rules = h.1.made })

  abbrev pub transformer_if : (s : T) (m : Meaning) (t : Bool) → c.told m ≡ t → Option (Transformer D B)
  transformer_if s m true e = lift (macro_at s.0.macros m) (c.macro s.0 s.1 m e)
  transformer_if s m false e = None

  abbrev pub keep_if : (v : Number) (r : Rules B) (e : D) (s : T) (t : Bool) → c.told (Local v) ≡ t → T
  keep_if v r e s true h = (record s.0 { macros = record { meaning = Local v; frames = e.0; rules = rules_map ident r } ∷ s.0.macros }, c.keep s.0 s.1 e.0 e.1 v h (rules_map ident r) (record { made = r; same = refl }))
  keep_if v r e s false h = s

  abbrev pub maybe_held : (r : Option (Rules B)) → IfMacro (Held rules_kind c.stands) (option_map (rules_map ident) r)
  maybe_held None = tt
  maybe_held (Some r) = record { made = r; same = refl }

  abbrev pub then_ : Named B → Option (Rules B) → D → T → ScopedState
  then_ n r e s = definition_added (body_around e.0) (named_map ident n) (option_map (rules_map ident) r) e.0 s.0

  abbrev pub then_holds : (n : Named B) (r : Option (Rules B)) (e : D) (s : T) → c.holds (then_ n r e s)
  then_holds n r e s = c.define s.0 s.1 e.0 e.1 (named_map ident n) n.name.1 (option_map (rules_map ident) r) (maybe_held r)

  abbrev pub define_cases : Named B → Option (Rules B) → D → Pending B M → T → (refused defined : Bool) → Result (Renamed B M) (Fault Ident) × T
  define_cases n r e p s refused defined =
      if refused then (Err (KeywordRedefined (named_map ident n)), s)
      else if defined then (Err (Duplicate (named_map ident n)), s)
      else (Ok (unchanged p), (then_ n r e s, then_holds n r e s))

  abbrev pub define_over : Named B → Option (Rules B) → D → Pending B M → T → Result (Renamed B M) (Fault Ident) × T
  define_over n r e p s =
      define_cases n r e p s (any (λ note. c.asks n.name.0 note && refused_now (then_ n r e s) (meaning_next s.0 (body_around e.0) n.name.0) (is_some (option_map (rules_map ident) r)) note) (map (note_map at) p.notes)) (is_defined s.0 (body_around e.0) n.name.0)

  -- the third side
  abbrev pub over : Ops D B M T
  over = record {
    names = names_over;
    plain = ident;
    insert = λ i k. insert_if i k (c.use_here k) refl;
    place = λ e i. (e, i);
    means = λ e s i. means_at s.0 e.0 i.0;
    transformer = λ s m. transformer_if s m (c.told m) refl;
    known = c.known;
    ask = λ qs s. s;
    is_assigned = λ e s i. assigned s.0 (body_around e.0) i.0;
    counted = λ s. record { locals = s.0.locals s.0.form; uses = s.0.uses s.0.form; nodes = s.0.nodes s.0.form; keywords = s.0.keywords s.0.form; met = s.0.met s.0.form };
    turn = λ f s. s;
    spend = λ n s. (record s.0 { nodes = at_form s.0.form (λ m. m + n) s.0.nodes }, c.still s.0 s.1 (at_form s.0.form (λ m. m + n) s.0.nodes) s.0.keywords s.0.met);
    meet = λ t s. (record s.0 { keywords = at_form s.0.form (λ ts. t ∷ ts) s.0.keywords }, c.still s.0 s.1 s.0.nodes (at_form s.0.form (λ ts. t ∷ ts) s.0.keywords) s.0.met);
    meet_use = λ u s. (record s.0 { met = at_form s.0.form (λ us. u ∷ us) s.0.met }, c.still s.0 s.1 s.0.nodes s.0.keywords (at_form s.0.form (λ us. u ∷ us) s.0.met));
    next_use = λ s. next_number s.0 s.0.uses;
    begin_use = λ e s. (record s.0 { uses = at_form s.0.form suc s.0.uses; places = record { use_number = next_number s.0 s.0.uses; frames = e.0 } ∷ s.0.places }, c.begin_use s.0 s.1 e.0 e.1);
    next_local = λ s. next_number s.0 s.0.locals;
    take_local = λ s. (record s.0 { locals = at_form s.0.form suc s.0.locals }, c.take_local s.0 s.1);
    next_bound = λ e s. bound_next s.0 (body_around e.0);
    bind = λ x e ts s. record { env = (Bind x.0 (next_number s.0 s.0.locals) ∷ e.0, c.bind s.0 s.1 e.0 e.1 x.0); trees = ts; state = (record s.0 { locals = at_form s.0.form suc s.0.locals }, c.take_local s.0 s.1) };
    keep = λ v r e s. keep_if v r e s (c.told (Local v)) refl;
    enter = λ e ts s. record { env = (Enter (next_number s.0 s.0.bodies) s.0.uses ∷ e.0, c.enter s.0 s.1 e.0 e.1); trees = ts; state = (record s.0 { bodies = at_form s.0.form suc s.0.bodies }, c.entered s.0 s.1) };
    define = λ n r e p s. define_over n r e p s;
  }

  -- what comes of a definition, which leaves names as they are
  abbrev pub renamed_seen : Renamed B M → Renamed Ident FramedIdent
  renamed_seen r = unchanged (pending_map ident at r.pending)

  abbrev pub defined_seen : Result (Renamed B M) (Fault Ident) × T → Result (Renamed Ident FramedIdent) (Fault Ident) × ScopedState
  defined_seen q = (seen renamed_seen q.0, q.1.0)

  -- a side that means and defines as the third does
  pub record Side : Type 0 where
    pub means : Frames → ScopedState → Ident → Meaning
    pub transformer : ScopedState → Meaning → Option (Transformer Frames Ident)
    pub define : Named Ident → Option (Rules Ident) → Frames → Pending Ident FramedIdent → ScopedState → Result (Renamed Ident FramedIdent) (Fault Ident) × ScopedState
    pub same_means : (e : D) (s : T) (i : B) → means e.0 s.0 i.0 ≡ means_at s.0 e.0 i.0
    pub same_transformer : (s : T) (m : Meaning) → c.told m ≡ true → transformer s.0 m ≡ macro_at s.0.macros m
    pub same_define : (n : Named B) (r : Option (Rules B)) (e : D) (p : Pending B M) (s : T) → define (named_map ident n) (option_map (rules_map ident) r) e.0 (pending_map ident at p) s.0 ≡ defined_seen (define_over n r e p s)

  abbrev pub side : Side → Ops Frames Ident FramedIdent ScopedState
  side x = record (scoped c.known) { means = x.means; transformer = x.transformer; define = x.define }

  -- ---- steps

  -- the side's step gives what the third's does, by g
  pub data Goes {V W : Type 0} (g : V → W) (q : Result V Broken × T) (q' : Result W Broken × ScopedState) : Type 0 where
    goes : q' ≡ (seen g q.0, q.1.0) → Goes g q q'

  pub goes_is : {V W : Type 0} {g : V → W} {q : Result V Broken × T} {q' : Result W Broken × ScopedState} → Goes g q q' → q' ≡ (seen g q.0, q.1.0)
  goes_is (goes e) = e

  pub goes_at : {V W : Type 0} {g : V → W} {q : Result V Broken × T} {q' q2 : Result W Broken × ScopedState} → q2 ≡ q' → Goes g q q' → Goes g q q2
  goes_at d (goes e) = goes (d ∙ e)

  bind_seen : {V W Y Z : Type 0} (g : V → W) (h : Y → Z) (r : Result V Broken) (t : T) (k : V → Step T Y) (k' : W → Step ScopedState Z)
      → ((v : V) (u : T) → Goes h (k v u) (k' (g v) u.0)) → Goes h ((r, t) >>= k) ((seen g r, t.0) >>= k')
  bind_seen g h (Ok v) t k k' next = next v t
  bind_seen g h (Err e) t k k' next = goes refl

  pub goes_bind : {V W Y Z : Type 0} {g : V → W} {h : Y → Z} {q : Result V Broken × T} {q' : Result W Broken × ScopedState} (k : V → Step T Y) (k' : W → Step ScopedState Z)
      → Goes g q q' → ((v : V) (u : T) → Goes h (k v u) (k' (g v) u.0)) → Goes h (q >>= k) (q' >>= k')
  goes_bind {g = g} {h = h} {q = q} k k' (goes e) next = goes_at (ap (λ z. z >>= k') e) (bind_seen g h q.0 q.1 k k' next)

  -- something that was read
  pub goes_read : {X Y : Type 0} {g : X → Y} {r : Result X (Fault B)} {r' : Result Y (Fault Ident)} (here : Here) (s : T) → Reads ident g r r' → Goes g (given ident here r s) (given (λ i. i) here r' s.0)
  goes_read {X} {Y} {g} {r} here s (reads e) = goes_at (ap (λ z. given (λ i. i) here z s.0) e) (go r)
    where
      go : (x : Result X (Fault B)) → Goes g (given ident here x s) (given (λ i. i) here (result_map ident g x) s.0)
      go (Ok x) = goes refl
      go (Err x) = goes (ap (λ y. (Err (record { fault = y; here = here }), s.0)) (faults_fused B Ident Ident (λ i. i) ident x))
