-- Two sides of expansion over one kind of identifiers: what it means that the second answers as the first asks, and what each
-- operation then has to keep. A side is given by its operations; the second's names and identifiers are the first's.
use Rattle.std.proofs.Common.{◌≡◌, ℕ, List, [], ◌∷◌, true, Option, Some, None, Result, Ok, Err}
use Rattle.scheme_model.specs.Identifiers.{Number}
use Rattle.scheme_model.specs.Ident.{Ident}
use Rattle.scheme_model.specs.Trees.{Trees}
use Rattle.scheme_model.specs.ExpansionFaults.{Named, Fault}
use Rattle.scheme_model.specs.Meaning.{Meaning, same_meaning}
use Rattle.scheme_model.specs.RulesShape.{Rules}
use Rattle.scheme_model.specs.Cores.{Target, Bound, Binder, Binders, RecordType, MacroUse, MacroDef, Parts, no_parts, part, Part, Expression as expression_part, Define as define_part, Values as values_part, Fields as fields_part, Syntax as syntax_part}
use Rattle.scheme_model.specs.Order.{Item, Expression, Value, Function, Assigned, AssignedFunction, ValuesOf, Record, Macro, Note, LookedUp, Compared, Left, Pending, Renamed, Transformer, Asked, Meant, Headed, RulesOf, Alike, Assigns, Library, Ops, is_some, head_of}
use Rattle.scheme_model.specs.Expression.{meaning_of}
use Rattle.model_laws.proofs.FrameAsks.{AllOf}
use Rattle.model_laws.proofs.FrameHeads.{IfMacro}

-- ---- alike

-- one by one
abbrev pub Both : {X Y : Type 0} → (X → Y → Type 0) → List X → List Y → Type 0
Both R [] [] = Unit {0}
Both R [] (y ∷ ys) = ⊥
Both R (x ∷ xs) [] = ⊥
Both R (x ∷ xs) (y ∷ ys) = R x y × Both R xs ys

-- both give a value, or the same fault
abbrev pub Results : {V W X : Type 0} → (V → W → Type 0) → Result V X → Result W X → Type 0
Results G (Ok v) (Ok w) = G v w
Results G (Ok v) (Err y) = ⊥
Results G (Err x) (Ok w) = ⊥
Results G (Err x) (Err y) = y ≡ x

abbrev pub Equal : {V : Type 0} → V → V → Type 0
Equal v w = w ≡ v

abbrev pub NoteLike : {L : Type 0} → (L → L → Type 0) → Note L → Note L → Type 0
NoteLike like (LookedUp l h k) (LookedUp m i j) = like l m × (i ≡ h) × (j ≡ k)
NoteLike like (LookedUp l h k) (Compared m n i) = ⊥
NoteLike like (Compared l m h) (LookedUp n i j) = ⊥
NoteLike like (Compared l m h) (Compared n o i) = like l n × like m o × (i ≡ h)

-- binders of one identifier at one place
abbrev pub BinderLike : (Bound → Bound → Type 0) → Binder → Binder → Type 0
BinderLike R b c = R b.bound c.bound × (c.ident ≡ b.ident) × (c.occ ≡ b.occ)

abbrev pub BindersLike : (Bound → Bound → Type 0) → Binders → Binders → Type 0
BindersLike R b c = Both (BinderLike R) b.names c.names × (c.rest ≡ b.rest)

abbrev pub RecordLike : (Bound → Bound → Type 0) → RecordType → RecordType → Type 0
RecordLike R r q = Both (BinderLike R) r.binders q.binders × (q.fields ≡ r.fields) × (q.modified ≡ r.modified) × (q.used ≡ r.used)

abbrev pub MacroLike : (Bound → Bound → Type 0) → MacroDef → MacroDef → Type 0
MacroLike R m n = BinderLike R m.binder n.binder × (n.rules ≡ m.rules) × (n.leaves ≡ m.leaves)

-- what was set aside, but for what its binders bind
abbrev pub ItemLike : {A : Type 0} → (Bound → Bound → Type 0) → Item A → Item A → Type 0
ItemLike R (Expression x) j = j ≡ Expression x
ItemLike R (Value b x) j = (c : Binder) × BinderLike R b c × (j ≡ Value c x)
ItemLike R (Function b here k) j = (c : Binder) × BinderLike R b c × (j ≡ Function c here k)
ItemLike R (Assigned n x) j = j ≡ Assigned n x
ItemLike R (AssignedFunction n here k) j = j ≡ AssignedFunction n here k
ItemLike R (ValuesOf bs x) j = (cs : Binders) × BindersLike R bs cs × (j ≡ ValuesOf cs x)
ItemLike R (Record r) j = (q : RecordType) × RecordLike R r q × (j ≡ Record q)
ItemLike R (Macro b here) j = (c : Binder) × BinderLike R b c × (j ≡ Macro c here)

-- a part of a body or a unit, but for that
abbrev pub PartLike : (Bound → Bound → Type 0) → Part → Part → Type 0
PartLike R (expression_part c) q = q ≡ expression_part c
PartLike R (define_part b c) q = (d : Binder) × BinderLike R b d × (q ≡ define_part d c)
PartLike R (values_part bs c) q = (ds : Binders) × BindersLike R bs ds × (q ≡ values_part ds c)
PartLike R (fields_part r) q = (t : RecordType) × RecordLike R r t × (q ≡ fields_part t)
PartLike R (syntax_part m) q = (n : MacroDef) × MacroLike R m n × (q ≡ syntax_part n)

abbrev pub PartsLike : (Bound → Bound → Type 0) → Parts → Parts → Type 0
PartsLike R no_parts qs = qs ≡ no_parts
PartsLike R (part p ps) qs = (q : Part) × (rs : Parts) × PartLike R p q × PartsLike R ps rs × (qs ≡ part q rs)

-- a macro with the same rules
abbrev pub TransformerLike : {E A : Type 0} → (E → E → Type 0) → Option (Transformer E A) → Option (Transformer E A) → Type 0
TransformerLike fits None o = o ≡ None
TransformerLike {E} fits (Some m) o = (f : E) × fits m.env f × (o ≡ Some (record { env = f; rules = m.rules }))

-- what is pending of a body or a unit, and what is left of it
pub record PendingLike {A L : Type 0} (R : Bound → Bound → Type 0) (N : List (Note L) → List (Note L) → Type 0) (p q : Pending A L) : Type 0 where
  pub todo : q.todo ≡ p.todo
  pub aside : Both (ItemLike R) p.aside q.aside
  pub uses : q.uses ≡ p.uses
  pub notes : N p.notes q.notes

abbrev pub RenamedLike : {A L : Type 0} → (Bound → Bound → Type 0) → (List (Note L) → List (Note L) → Type 0) → Renamed A L → Renamed A L → Type 0
RenamedLike R N d r = PendingLike R N d.pending r.pending × (r.rename ≡ d.rename)

abbrev pub LeftLike : {A : Type 0} → (Bound → Bound → Type 0) → Left A → Left A → Type 0
LeftLike R l m = (m.uses ≡ l.uses) × Both (ItemLike R) l.items m.items

-- ---- two sides

-- what both ask, in environments that go together, and of which macros
abbrev pub AskedLike : {E A : Type 0} → (Meaning → Type 0) → (E → E → Type 0) → Asked E A → Asked E A → Type 0
AskedLike {E} ruled fits (Meant e i) q = (f : E) × fits e f × (q ≡ Meant f i)
AskedLike {E} ruled fits (Headed e i) q = (f : E) × fits e f × (q ≡ Headed f i)
AskedLike ruled fits (RulesOf m) q = ruled m × (q ≡ RulesOf m)
AskedLike {E} ruled fits (Alike d l e j) q = (g : E) × (f : E) × fits d g × fits e f × (q ≡ Alike g l f j)
AskedLike {E} ruled fits (Assigns e i) q = (f : E) × fits e f × (q ≡ Assigns f i)
AskedLike ruled fits (Library n) q = q ≡ Library n

module _ {E A L S T : Type 0} (ops : Ops E A L S) (others : Ops E A L T) (fits : S → E → E → Type 0) where
  -- the second tells identifiers as the first
  abbrev pub second : Ops E A L T
  second = record others { names = ops.names; plain = ops.plain; insert = ops.insert }

  -- what is asked has the same answer on the second
  abbrev pub Answer : S → T → Asked E A → Type 0
  Answer s t (Meant e i) = (f : E) → fits s e f → others.means f t i ≡ ops.means e s i
  Answer s t (Headed e i) = (f : E) → fits s e f → (others.means f t i ≡ ops.means e s i) × (head_of second f t i ≡ head_of ops e s i)
  Answer s t (RulesOf m) = TransformerLike (fits s) (ops.transformer s m) (others.transformer t m)
  Answer s t (Alike d l e j) = (g f : E) → fits s d g → fits s e f → same_meaning (others.means g t l) (others.means f t j) ≡ same_meaning (ops.means d s l) (ops.means e s j)
  Answer s t (Assigns e i) = (f : E) → fits s e f → others.is_assigned f t i ≡ ops.is_assigned e s i
  Answer s t (Library n) = others.known n ≡ ops.known n

  -- `same_so_far` holds of a state if all that was asked by then has the same answers, `later` of a state and one after it, `near` of two
  -- states that go together, `fits` of their environments, and `defines` of those in which definitions are made; `like` holds of what
  -- notes keep of an identifier, `bounds` of what a definition binds, `notes` of the notes of a body or a unit, and `ruled` of a macro of
  -- which the rules are asked, as of one that is there
  pub record Sides : Type 1 where
    pub same_so_far : S → Type 0
    pub later : S → S → Type 0
    pub near : S → T → Type 0
    pub defines : E → Type 0
    pub like : S → L → L → Type 0
    pub bounds : E → Bound → Bound → Type 0
    pub notes : S → E → List (Note L) → List (Note L) → Type 0
    pub ruled : S → Meaning → Type 0
    pub ruled_there : (s : S) (m : Meaning) → is_some (ops.transformer s m) ≡ true → ruled s m
    pub itself : (s : S) → later s s
    pub then_ : (s t u : S) → later s t → later t u → later s u
    pub fits_later : (s t : S) → later s t → (e f : E) → fits s e f → fits t e f
    pub notes_later : (s t : S) → later s t → (e : E) (ns ms : List (Note L)) → notes s e ns ms → notes t e ns ms
    pub more_notes : (s : S) (e : E) (ns ms : List (Note L)) → notes s e ns ms → (n m : Note L) → NoteLike (like s) n m → notes s e (n ∷ ns) (m ∷ ms)
    pub placed : (s : S) (e f : E) → fits s e f → (i : A) → like s (ops.place e i) (others.place f i)
    pub answered : (s : S) (t : T) → near s t → (qs : List (Asked E A)) → same_so_far (ops.ask qs s) → AllOf (Answer s t) qs
    pub ask_back : (s : S) (qs : List (Asked E A)) → same_so_far (ops.ask qs s) → same_so_far s
    pub ask_later : (s : S) (qs : List (Asked E A)) → later s (ops.ask qs s)
    pub ask_near : (s : S) (t : T) → near s t → (qs rs : List (Asked E A)) → Both (AskedLike (ruled s) (fits s)) qs rs → near (ops.ask qs s) (others.ask rs t)
    pub ask_means : (s : S) (qs : List (Asked E A)) (e : E) (i : A) → ops.means e (ops.ask qs s) i ≡ ops.means e s i
    pub ask_macro : (s : S) (qs : List (Asked E A)) (m : Meaning) → ops.transformer (ops.ask qs s) m ≡ ops.transformer s m
    pub ask_meant : (t : T) (rs : List (Asked E A)) (f : E) (i : A) → others.means f (others.ask rs t) i ≡ others.means f t i
    pub counts : (s : S) (t : T) → near s t → others.counted t ≡ ops.counted s
    pub spend_back : (s : S) (n : ℕ) → same_so_far (ops.spend n s) → same_so_far s
    pub spend_later : (s : S) (n : ℕ) → later s (ops.spend n s)
    pub spend_near : (s : S) (t : T) → near s t → (n : ℕ) → near (ops.spend n s) (others.spend n t)
    pub spend_means : (s : S) (n : ℕ) (e : E) (i : A) → ops.means e (ops.spend n s) i ≡ ops.means e s i
    pub spend_meant : (t : T) (n : ℕ) (f : E) (i : A) → others.means f (others.spend n t) i ≡ others.means f t i
    pub meet_back : (s : S) (x : Target) → same_so_far (ops.meet x s) → same_so_far s
    pub meet_later : (s : S) (x : Target) → later s (ops.meet x s)
    pub meet_near : (s : S) (t : T) → near s t → (x : Target) → near (ops.meet x s) (others.meet x t)
    pub meet_use_back : (s : S) (u : MacroUse) → same_so_far (ops.meet_use u s) → same_so_far s
    pub meet_use_later : (s : S) (u : MacroUse) → later s (ops.meet_use u s)
    pub meet_use_near : (s : S) (t : T) → near s t → (u : MacroUse) → near (ops.meet_use u s) (others.meet_use u t)
    pub next_use : (s : S) (t : T) → near s t → others.next_use t ≡ ops.next_use s
    pub begin_back : (s : S) (e : E) → same_so_far (ops.begin_use e s) → same_so_far s
    pub begin_later : (s : S) (e f : E) → fits s e f → later s (ops.begin_use e s)
    pub begin_near : (s : S) (t : T) → near s t → (e f : E) → fits s e f → near (ops.begin_use e s) (others.begin_use f t)
    pub next_local : (s : S) (t : T) → near s t → others.next_local t ≡ ops.next_local s
    pub take_back : (s : S) → same_so_far (ops.take_local s) → same_so_far s
    pub take_later : (s : S) → later s (ops.take_local s)
    pub take_near : (s : S) (t : T) → near s t → near (ops.take_local s) (others.take_local t)
    pub some_bound : (s : S) (e f : E) → fits s e f → (c : Bound) × bounds e (ops.next_bound e s) c
    pub next_bound : (s : S) (t : T) → near s t → (e f : E) → fits s e f → bounds e (ops.next_bound e s) (others.next_bound f t)
    pub same_meant : (e : E) (x y : Bound) → bounds e x y → (i : Ident) → meaning_of y i ≡ meaning_of x i
    pub bind_back : (s : S) (x : A) (e : E) (ts : Trees A) → same_so_far (ops.bind x e ts s).state → same_so_far s
    pub bind_later : (s : S) (x : A) (e f : E) → fits s e f → (ts : Trees A) → later s (ops.bind x e ts s).state
    pub bind_some : (s : S) (x : A) (e f : E) → fits s e f → (ts : Trees A) → (g : E) × fits (ops.bind x e ts s).state (ops.bind x e ts s).env g
    pub bind_near : (s : S) (t : T) → near s t → (x : A) (e f : E) → fits s e f → (ts : Trees A)
        → near (ops.bind x e ts s).state (others.bind x f ts t).state × fits (ops.bind x e ts s).state (ops.bind x e ts s).env (others.bind x f ts t).env × ((others.bind x f ts t).trees ≡ (ops.bind x e ts s).trees)
    pub macro : (s : S) (e f : E) → fits s e f → (m : Meaning) → IfMacro (λ (c : Transformer E A). (g : E) × fits s c.env g) (ops.transformer s m)
    pub keep_back : (s : S) (v : Number) (r : Rules A) (e : E) → same_so_far (ops.keep v r e s) → same_so_far s
    pub keep_later : (s : S) (v : Number) (r : Rules A) (e f : E) → fits s e f → later s (ops.keep v r e s)
    pub keep_near : (s : S) (t : T) → near s t → (v : Number) (r : Rules A) (e f : E) → fits s e f → near (ops.keep v r e s) (others.keep v r f t)
    pub enter_back : (s : S) (e : E) (ts : Trees A) → same_so_far (ops.enter e ts s).state → same_so_far s
    pub enter_later : (s : S) (e f : E) → fits s e f → (ts : Trees A) → later s (ops.enter e ts s).state
    pub enter_some : (s : S) (e f : E) → fits s e f → (ts : Trees A) → (g : E) × fits (ops.enter e ts s).state (ops.enter e ts s).env g
    pub enter_near : (s : S) (t : T) → near s t → (e f : E) → fits s e f → (ts : Trees A)
        → near (ops.enter e ts s).state (others.enter f ts t).state × fits (ops.enter e ts s).state (ops.enter e ts s).env (others.enter f ts t).env × ((others.enter f ts t).trees ≡ (ops.enter e ts s).trees)
    pub entered : (s : S) (e f : E) → fits s e f → (ts : Trees A) → notes (ops.enter e ts s).state (ops.enter e ts s).env [] []
    pub inside : (s : S) (e : E) (ts : Trees A) → defines (ops.enter e ts s).env
    pub inside_bounds : (s : S) (e : E) (ts : Trees A) (x y : Bound) → bounds (ops.enter e ts s).env x y → y ≡ x
    pub define_back : (s : S) (n : Named A) (r : Option (Rules A)) (e : E) (p : Pending A L) → same_so_far (ops.define n r e p s).1 → same_so_far s
    pub define_later : (s : S) (e f : E) → defines e → fits s e f → (n : Named A) (r : Option (Rules A)) (p q : Pending A L) → PendingLike (bounds e) (notes s e) p q → later s (ops.define n r e p s).1
    pub define_some : (s : S) (e f : E) → defines e → fits s e f → (n : Named A) (r : Option (Rules A)) (p q : Pending A L) → PendingLike (bounds e) (notes s e) p q
        → (y : Result (Renamed A L) (Fault Ident)) × Results (RenamedLike (bounds e) (notes (ops.define n r e p s).1 e)) (ops.define n r e p s).0 y
    pub define_near : (s : S) (t : T) → near s t → (e f : E) → defines e → fits s e f → (n : Named A) (r : Option (Rules A)) (p q : Pending A L) → PendingLike (bounds e) (notes s e) p q → same_so_far (ops.define n r e p s).1
        → Results (RenamedLike (bounds e) (notes (ops.define n r e p s).1 e)) (ops.define n r e p s).0 (others.define n r f q t).0 × near (ops.define n r e p s).1 (others.define n r f q t).1
