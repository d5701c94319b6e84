-- No look-up reads the times at which bodies were entered.
use Rattle.std.proofs.Common.{◌≡◌, List, [], ◌∷◌, map, Bool, true, false, cond, Option, Some, None, refl, sym, ap, ◌∙◌}
use Rattle.std.specs.Prelude.{◌||◌, ◌&&◌}
use Rattle.scheme_model.specs.Identifiers.{Number, same_number}
use Rattle.scheme_model.specs.Ident.{Ident, Written, Inserted, same_ident}
use Rattle.scheme_model.specs.Meaning.{Meaning, same_meaning}
use Rattle.scheme_model.specs.RulesShape.{Rules, option_map}
use Rattle.scheme_model.specs.Order.{Note, LookedUp, Compared, Transformer, is_some}
use Rattle.scheme_model.specs.Substitution.{Table, defined_in, any, is_refused}
use Rattle.scheme_model.specs.ScopedExpansion.{Bind, Enter, Frames, BodyDefinitions, UsePlace, FramedIdent, ScopedMacro, around, find, macro_at, body_around}
use Rattle.scheme_model.specs.OwnAnswers.{Own, found_or, local_inside, unless, local_outside, own_local}
use Rattle.scheme_model.specs.Questions.{bare, bare_macro}
use Rattle.scheme_model.specs.FormsAlike.{bare_place, bare_kept, bare_ident, bare_note}
use Rattle.model_laws.proofs.FrameHeads.{IfMacro}
use Rattle.form_laws.proofs.Sides.{NoteLike, TransformerLike}

-- the same frames but for these times
abbrev pub SameFrames : Frames → Frames → Type 0
SameFrames fs gs = bare gs ≡ bare fs

body_bare : (fs : Frames) → body_around (bare fs) ≡ body_around fs
body_bare [] = refl
body_bare (Bind x v ∷ fs) = body_bare fs
body_bare (Enter b u ∷ fs) = refl

pub body_same : (fs gs : Frames) → SameFrames fs gs → body_around gs ≡ body_around fs
body_same fs gs h = sym (body_bare gs) ∙ ap body_around h ∙ body_bare fs

pub bare_twice : (fs : Frames) → bare (bare fs) ≡ bare fs
bare_twice [] = refl
bare_twice (Bind y k ∷ fs) = ap (λ zs. Bind y k ∷ zs) (bare_twice fs)
bare_twice (Enter b u ∷ fs) = ap (λ zs. Enter b (λ f. 0) ∷ zs) (bare_twice fs)

-- ---- macros

pub macro_bare : (ks : List ScopedMacro) (m : Meaning) → macro_at (map bare_kept ks) m ≡ option_map bare_macro (macro_at ks m)
macro_bare [] m = refl
macro_bare (k ∷ ks) m = go (same_meaning k.meaning m) (macro_bare ks m)
  where
    go : (b : Bool) → macro_at (map bare_kept ks) m ≡ option_map bare_macro (macro_at ks m)
        → cond b (Some (record { env = bare k.frames; rules = k.rules })) (macro_at (map bare_kept ks) m) ≡ option_map bare_macro (cond b (Some (record { env = k.frames; rules = k.rules })) (macro_at ks m))
    go true h = refl
    go false h = h

pub some_mapped : {X Y : Type 0} (h : X → Y) (o : Option X) → is_some (option_map h o) ≡ is_some o
some_mapped h None = refl
some_mapped h (Some x) = refl

pub some_frames : (o : Option (Transformer Frames Ident)) → IfMacro (λ (c : Transformer Frames Ident). (g : Frames) × SameFrames c.env g) o
some_frames None = tt
some_frames (Some c) = (c.env, refl)

env_of : Option (Transformer Frames Ident) → Frames
env_of None = []
env_of (Some m) = m.env

rules_or : Rules Ident → Option (Transformer Frames Ident) → Rules Ident
rules_or r None = r
rules_or r (Some m) = m.rules

pub like_of : (o o2 : Option (Transformer Frames Ident)) → option_map bare_macro o2 ≡ option_map bare_macro o → TransformerLike SameFrames o o2
unfolding env_of rules_or
like_of None None e = refl
like_of None (Some m) e = let q : Some (bare_macro m) ≡ None = e in absurd cc
like_of (Some m) None e = let q : None ≡ Some (bare_macro m) = e in absurd cc
like_of (Some m) (Some m2) e = (m2.env, ap env_of e, λ j. Some (record { env = m2.env; rules = rules_or m.rules (e j) }))

-- ---- the form's own answers

pub around_bare : (ps : List UsePlace) (k : Number) → around (map bare_place ps) k ≡ bare (around ps k)
around_bare [] k = refl
around_bare (p ∷ ps) k = go (same_number p.use_number k) (around_bare ps k)
  where
    go : (b : Bool) → around (map bare_place ps) k ≡ bare (around ps k) → cond b (bare p.frames) (around (map bare_place ps) k) ≡ bare (cond b p.frames (around ps k))
    go true h = refl
    go false h = h

inside_bare : (ds : BodyDefinitions) (fs : Frames) (i : Ident) (o : Option Number) → local_inside ds (bare fs) i o ≡ local_inside ds fs i o
inside_bare ds [] i o = refl
inside_bare ds (Bind x v ∷ fs) i o = ap (cond (same_ident x i) (Some v)) (inside_bare ds fs i o)
inside_bare ds (Enter b u ∷ fs) i o = ap (found_or (find ds b i)) (inside_bare ds fs i o)

outside_bare : (table : Table) (ps : List UsePlace) (ds : BodyDefinitions) (i : Ident) → local_outside table (map bare_place ps) ds i ≡ local_outside table ps ds i
outside_bare table ps ds (Written u s) = refl
outside_bare table ps ds (Inserted i k) =
    let p = around_bare ps k in let q = outside_bare table ps ds i in
    ap (unless (is_some (defined_in table k.unit (Inserted i k)))) ((λ j. local_inside ds (p j) i (q j)) ∙ inside_bare ds (around ps k) i (local_outside table ps ds i))

pub local_bare : (o : Own) (fs : Frames) (i : Ident) → local_inside o.definitions (bare fs) i (local_outside o.table (map bare_place o.places) o.definitions i) ≡ own_local o fs i
local_bare o fs i = ap (local_inside o.definitions (bare fs) i) (outside_bare o.table o.places o.definitions i) ∙ inside_bare o.definitions fs i (local_outside o.table o.places o.definitions i)

pub own_bare : (o : Own) (fs : Frames) (i : Ident) → own_local o fs i ≡ own_local o (bare fs) i
own_bare o fs i = sym (inside_bare o.definitions fs i (local_outside o.table o.places o.definitions i))

-- ---- notes

refused_bare : (new : Bool) (m : Meaning) (f g : FramedIdent → Meaning) → ((p : FramedIdent) → f p ≡ g (bare_ident p)) → (note : Note FramedIdent)
    → is_refused new (λ p. same_meaning (f p) m) f note ≡ is_refused new (λ p. same_meaning (g p) m) g (bare_note note)
refused_bare new m f g e (LookedUp p head keyword) = ap (λ x. same_meaning x m && (keyword || (head && new))) (e p)
refused_bare new m f g e (Compared p q held) = let a = e p in let b = e q in λ j. is_refused new (λ (z : Bool). same_meaning (cond z (a j) (b j)) m) (λ (z : Bool). cond z (a j) (b j)) (Compared true false held)

pub any_bare : (new : Bool) (m : Meaning) (f g : FramedIdent → Meaning) → ((p : FramedIdent) → f p ≡ g (bare_ident p)) → (ns : List (Note FramedIdent))
    → any (is_refused new (λ p. same_meaning (f p) m) f) ns ≡ any (is_refused new (λ p. same_meaning (g p) m) g) (map bare_note ns)
any_bare new m f g e [] = refl
any_bare new m f g e (x ∷ ns) = let a = refused_bare new m f g e x in let b = any_bare new m f g e ns in λ j. a j || b j

pub note_bare : (n m : Note FramedIdent) → NoteLike (λ (l k : FramedIdent). bare_ident k ≡ bare_ident l) n m → bare_note m ≡ bare_note n
note_bare (LookedUp l h k) (LookedUp m i j) e = let a = e.0 in let b = e.1 in let c = e.2 in λ z. LookedUp (a z) (b z) (c z)
note_bare (LookedUp l h k) (Compared m n i) e = absurd e
note_bare (Compared l m h) (LookedUp n i j) e = absurd e
note_bare (Compared l m h) (Compared n o i) e = let a = e.0 in let b = e.1 in let c = e.2 in λ z. Compared (a z) (b z) (c z)
