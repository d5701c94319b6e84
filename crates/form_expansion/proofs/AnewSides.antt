-- No step of an expansion that notes what it asks reads whether nothing was noted when its part began: two expansions that differ in that
-- alone, as two sides.
use Rattle.std.proofs.Common.{◌≡◌, ℕ, List, [], ◌∷◌, ◌++◌, Bool, Option, Some, None, Result, Ok, Err, refl, sym, ap, ◌∙◌, subst}
use Rattle.std.specs.Prelude.{◌&&◌}
use Rattle.scheme_model.specs.Identifiers.{Number}
use Rattle.scheme_model.specs.Ident.{Ident}
use Rattle.scheme_model.specs.ExpansionFaults.{Named, Fault}
use Rattle.scheme_model.specs.Meaning.{same_meaning, head_as}
use Rattle.scheme_model.specs.Requirements.{Known}
use Rattle.scheme_model.specs.RulesShape.{Rules}
use Rattle.scheme_model.specs.Cores.{Part}
use Rattle.scheme_model.specs.Steps.{Broken}
use Rattle.scheme_model.specs.Order.{Note, Pending, Renamed, Transformer, Asked, Meant, Headed, RulesOf, Alike, Assigns, Library, Ops, Item, is_some}
use Rattle.scheme_model.specs.Expression.{meaning_of, expand, item_part}
use Rattle.scheme_model.specs.UnitExpansion.{max_depth}
use Rattle.scheme_model.specs.Substitution.{any}
use Rattle.scheme_model.specs.ScopedExpansion.{Bind, Frames, FramedIdent, macro_at, body_around, definition_added, meaning_next, is_defined}
use Rattle.scheme_model.specs.CountedExpansion as counted
use Rattle.scheme_model.specs.Questions.{Outcome, Stands, Redefines, StoodBefore, outcome_by}
use Rattle.form_laws.specs.Begins.{Each}
use Rattle.form_laws.proofs.Sides.{Both, AskedLike, Results, PendingLike, RenamedLike, PartLike, TransformerLike, Answer, Sides}
use Rattle.form_laws.proofs.SideRuns.{item_itself}
use Rattle.form_laws.proofs.SideExpressions.{part_equal, item_goes, expand_goes}
use Rattle.unit_scopes.specs.Searched.{speaks_of}
use Rattle.form_notes.specs.Noted.{Noted}
use Rattle.noted_steps.specs.Noting.{Noting, state_of, with_state, means_here, assigned, note_of, noted_with, outcome, ended, owned, define_by, define_noting, noting}
use Rattle.noted_steps.proofs.PlainSides.{Fits, Same, SameNotes, note_same, macro_some, some_by}

abbrev pub flagged : Bool → Noting → Noting
flagged q s = record s { anew = q }

-- ---- what is asked

asked_same : (x y : Asked Frames Ident) → AskedLike (λ m. Unit {0}) (λ (e f : Frames). f ≡ e) x y → y ≡ x
asked_same (Meant e i) y h = h.2 ∙ ap (λ (g : Frames). Meant g i) h.1
asked_same (Headed e i) y h = h.2 ∙ ap (λ (g : Frames). Headed g i) h.1
asked_same (RulesOf m) y h = h.1
asked_same (Alike d l e j) y h = h.4 ∙ (let a = h.2 in let b = h.3 in λ k. Alike (a k) l (b k) j)
asked_same (Assigns e i) y h = h.2 ∙ ap (λ (g : Frames). Assigns g i) h.1
asked_same (Library n) y h = h

all_asked_same : (xs ys : List (Asked Frames Ident)) → Both (AskedLike (λ m. Unit {0}) (λ (e f : Frames). f ≡ e)) xs ys → ys ≡ xs
all_asked_same [] [] h = refl
all_asked_same [] (y ∷ ys) h = absurd h
all_asked_same (x ∷ xs) [] h = absurd h
all_asked_same (x ∷ xs) (y ∷ ys) h = let a = asked_same x y h.0 in let b = all_asked_same xs ys h.1 in λ j. a j ∷ b j

macro_like : (x y : Option (Transformer Frames Ident)) → y ≡ x → TransformerLike (λ (e f : Frames). f ≡ e) x y
macro_like None y e = e
macro_like (Some m) y e = (m.env, refl, e)

module _ (known : Known) (q : Bool) where
  abbrev ops : Ops Frames Ident FramedIdent Noting
  ops = noting known

  note_flag : (s : Noting) (x : Asked Frames Ident) → note_of known (flagged q s) x ≡ note_of known s x
  note_flag s (Meant e i) = refl
  note_flag s (Headed e i) = refl
  note_flag s (RulesOf m) = refl
  note_flag s (Alike d l e j) = refl
  note_flag s (Assigns e i) = refl
  note_flag s (Library n) = refl

  noted_flag : (s : Noting) (xs : List (Asked Frames Ident)) (ns : List Noted) → noted_with known (flagged q s) xs ns ≡ noted_with known s xs ns
  noted_flag s [] ns = refl
  noted_flag s (x ∷ xs) ns = let a = note_flag s x in let b = noted_flag s xs ns in λ j. a j ++ b j

  asked_near : (s t : Noting) → t ≡ flagged q s → (xs ys : List (Asked Frames Ident)) → Both (AskedLike (λ m. Unit {0}) (λ (e f : Frames). f ≡ e)) xs ys → ops.ask ys t ≡ flagged q (ops.ask xs s)
  asked_near s t h xs ys a =
      let e = all_asked_same xs ys a in
      let both : ops.ask ys t ≡ ops.ask xs (flagged q s) = (λ j. ops.ask (e j) (h j)) in
      both ∙ ap (λ (ns : List Noted). record s { anew = q; noted = ns }) (noted_flag s xs s.noted)

  answered : (s t : Noting) → t ≡ flagged q s → (x : Asked Frames Ident) → Answer ops ops Fits s t x
  answered s t h (Meant e i) = λ f d. (λ j. means_here (h j) (d j) i)
  answered s t h (Headed e i) = λ f d. ((λ j. means_here (h j) (d j) i), (λ j. let z : Noting = h j in head_as (λ m. is_some (macro_at z.macros m)) (means_here z (d j) i)))
  answered s t h (RulesOf m) = macro_like (macro_at s.macros m) (macro_at t.macros m) (ap (λ (z : Noting). macro_at z.macros m) h)
  answered s t h (Alike d l e i) = λ g f a b. (λ j. same_meaning (means_here (h j) (a j) l) (means_here (h j) (b j) i))
  answered s t h (Assigns e i) = λ f d. (λ j. assigned (h j) (body_around (d j)) i)
  answered s t h (Library n) = refl

  all_answered : (s t : Noting) → t ≡ flagged q s → (xs : List (Asked Frames Ident)) → Each (Answer ops ops Fits s t) xs
  all_answered s t h [] = tt
  all_answered s t h (x ∷ xs) = (answered s t h x, all_answered s t h xs)

  -- ---- a definition

  ended_flag : (b : Option Number) (n : Named Ident) (r : Option (Rules Ident)) (fs : Frames) (ns : List (Note FramedIdent)) (o : Outcome) (s : Noting) → ended b n r fs ns o (flagged q s) ≡ flagged q (ended b n r fs ns o s)
  ended_flag None n r fs ns o s = refl
  ended_flag (Some b) n r fs ns o s = refl

  owned_flag : (b : Option Number) (n : Named Ident) (k : Bool) (s : Noting) → owned b n k (flagged q s) ≡ flagged q (owned b n k s)
  owned_flag None n k s = refl
  owned_flag (Some b) n k s = refl

  by_near : (b : Option Number) (n : Named Ident) (r : Option (Rules Ident)) (fs : Frames) (x y : Pending Ident FramedIdent) → PendingLike Same SameNotes x y → (o : Outcome) (s t : Noting) → t ≡ flagged q s →
      let d = define_by o b n r fs x s in let e = define_by o b n r fs y t in Results (RenamedLike Same SameNotes) d.0 e.0 × (e.1 ≡ flagged q d.1)
  by_near b n r fs x y l Redefines s t h = (refl, h)
  by_near b n r fs x y l StoodBefore s t h = (refl, h)
  by_near b n r fs x y l Stands s t h =
      ((l, refl), ap (λ (z : Noting). owned b n (is_some r) (with_state z (definition_added b n r fs (state_of z)))) h ∙ owned_flag b n (is_some r) (with_state s (definition_added b n r fs (state_of s))))

  defined_near : (s t : Noting) → t ≡ flagged q s → (e f : Frames) → f ≡ e → (n : Named Ident) (r : Option (Rules Ident)) (x y : Pending Ident FramedIdent) → PendingLike Same SameNotes x y →
      let d = define_noting (body_around e) n r e x s in let g = ops.define n r f y t in Results (RenamedLike Same SameNotes) d.0 g.0 × (g.1 ≡ flagged q d.1)
  defined_near s t h e f d n r x y l =
      let b = body_around e in
      let o = outcome b n r e x s in
      let notes = l.notes in
      let same : ops.define n r f y t ≡ define_by o b n r e y (ended b n r e x.notes o (flagged q s)) =
      (λ j. let z : Noting = h j in let g : Frames = d j in let k = body_around g in let ns : List (Note FramedIdent) = notes j in
      let p = outcome_by (any (λ note. speaks_of n.name note && counted.refused_here (definition_added k n r g (state_of z)) (meaning_next (state_of z) k n.name) (is_some r) note) ns) (is_defined (state_of z) k n.name) in
      define_by p k n r g y (ended k n r g ns p z)) in
      let u = ended b n r e x.notes o s in
      let v = define_by o b n r e x u in
      subst (λ (w : Result (Renamed Ident FramedIdent) (Fault Ident) × Noting). Results (RenamedLike Same SameNotes) v.0 w.0 × (w.1 ≡ flagged q v.1)) (sym same)
      (by_near b n r e x y l o u (ended b n r e x.notes o (flagged q s)) (ended_flag b n r e x.notes o s))

  -- ---- the sides

  abbrev sides : Sides ops ops Fits
  sides = record {
    same_so_far = λ s. Unit {0};
    later = λ s t. Unit {0};
    near = λ s t. t ≡ flagged q s;
    defines = λ fs. Unit {0};
    like = λ s l k. k ≡ l;
    bounds = λ fs. Same;
    notes = λ s fs. SameNotes;
    ruled = λ s m. Unit {0};
    ruled_there = λ s m a. tt;
    itself = λ s. tt;
    then_ = λ s t u a b. tt;
    fits_later = λ s t a e f d. d;
    notes_later = λ s t a e ns ms d. d;
    more_notes = λ s e ns ms d n m h. (let a = note_same n m h in λ j. a j ∷ d j);
    placed = λ s e f d i. (λ j. record { frames = d j; ident = i });
    answered = λ s t h xs a. all_answered s t h xs;
    ask_back = λ s xs a. tt;
    ask_later = λ s xs. tt;
    ask_near = λ s t h xs ys a. asked_near s t h xs ys a;
    ask_means = λ s xs e i. refl;
    ask_macro = λ s xs m. refl;
    ask_meant = λ t ys f i. refl;
    counts = λ s t h. ap (λ z. ops.counted z) h;
    spend_back = λ s n a. tt;
    spend_later = λ s n. tt;
    spend_near = λ s t h n. ap (λ z. ops.spend n z) h;
    spend_means = λ s n e i. refl;
    spend_meant = λ t n f i. refl;
    meet_back = λ s x a. tt;
    meet_later = λ s x. tt;
    meet_near = λ s t h x. ap (λ z. ops.meet x z) h;
    meet_use_back = λ s u a. tt;
    meet_use_later = λ s u. tt;
    meet_use_near = λ s t h u. ap (λ z. ops.meet_use u z) h;
    next_use = λ s t h. ap (λ z. ops.next_use z) h;
    begin_back = λ s e a. tt;
    begin_later = λ s e f d. tt;
    begin_near = λ s t h e f d. (λ j. ops.begin_use (d j) (h j));
    next_local = λ s t h. ap (λ z. ops.next_local z) h;
    take_back = λ s a. tt;
    take_later = λ s. tt;
    take_near = λ s t h. ap (λ z. ops.take_local z) h;
    some_bound = λ s e f d. (ops.next_bound e s, refl);
    next_bound = λ s t h e f d. (λ j. ops.next_bound (d j) (h j));
    same_meant = λ e x y d i. ap (λ z. meaning_of z i) d;
    bind_back = λ s x e ts a. tt;
    bind_later = λ s x e f d ts. tt;
    bind_some = λ s x e f d ts. (Bind x (ops.next_local s) ∷ e, refl);
    bind_near = λ s t h x e f d ts. (ap (λ z. ops.take_local z) h, (λ j. Bind x (ops.next_local (h j)) ∷ d j), refl);
    macro = λ s e f d m. macro_some (macro_at s.macros m);
    keep_back = λ s v r e a. tt;
    keep_later = λ s v r e f d. tt;
    keep_near = λ s t h v r e f d. (λ j. ops.keep v r (d j) (h j));
    enter_back = λ s e ts a. tt;
    enter_later = λ s e f d ts. tt;
    enter_some = λ s e f d ts. ((ops.enter e ts s).env, refl);
    enter_near = λ s t h e f d ts. ((λ j. (ops.enter (d j) ts (h j)).state), (λ j. (ops.enter (d j) ts (h j)).env), refl);
    entered = λ s e f d ts. refl;
    inside = λ s e ts. tt;
    inside_bounds = λ s e ts x y d. d;
    define_back = λ s n r e p a. tt;
    define_later = λ s e f d h n r p y l. tt;
    define_some = λ s e f d h n r p y l. some_by (body_around e) n r e p y l (outcome (body_around e) n r e p s) (ended (body_around e) n r e p.notes (outcome (body_around e) n r e p s) s);
    define_near = λ s t h e f d g n r p y l a. defined_near s t h e f g n r p y l;
  }

  part_same : (r p : Result Part Broken) → Results (PartLike Same) r p → p ≡ r
  part_same (Ok x) (Ok y) h = ap (λ z. Ok z) (part_equal Same (λ x y e. e) x y h)
  part_same (Ok x) (Err y) h = absurd h
  part_same (Err x) (Ok y) h = absurd h
  part_same (Err x) (Err y) h = ap (λ z. Err z) h

  pub item_flag : (turns : ℕ) (i : Item Ident) (s : Noting) → let p = item_part (expand (noting known) turns) (noting known) max_depth [] i s in
      item_part (expand (noting known) turns) (noting known) max_depth [] i (flagged q s) ≡ (p.0, flagged q p.1)
  item_flag turns i s =
      let f = expand (noting known) turns in
      let p = item_part f (noting known) max_depth [] i s in
      let y = item_part f (noting known) max_depth [] i (flagged q s) in
      let law = item_goes (noting known) (noting known) Fits sides (λ s m. tt) f f (expand_goes (noting known) (noting known) Fits sides (λ s m. tt) turns) Same (λ x y e k. ap (λ z. meaning_of z k) e) max_depth [] [] i i (item_itself Same (λ x. refl) i) s refl in
      let x = law.same (flagged q s) refl tt in
      let a = part_same p.0 y.0 x.0 in
      let c = x.1 in
      λ j. (a j, c j)
