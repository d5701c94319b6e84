-- A form's own notes, in the unit's own scope.
use Rattle.std.proofs.Common.{◌≡◌, ℕ, zero, suc, ◌-◌, ◌<◌, ◌≤◌, List, [], ◌∷◌, ◌++◌, length, reverse, slice_get, get_or, take, drop, Some, refl, sym, ap, ◌∙◌, subst, arith}
use Rattle.std.proofs.lemmas.List.{reverse-append, reverse-reverse}
use Rattle.std.proofs.lemmas.Option.{same_Some, slice_get_within}
use Rattle.scheme_model.specs.Order.{Note, LookedUp, Compared}
use Rattle.scheme_model.specs.ScopedExpansion.{Frames, FramedIdent}
use Rattle.form_laws.specs.Begins.{Each}
use Rattle.syntax_tree.specs.Names.{Names}
use Rattle.syntax_tree.specs.declared.trees.Work.{Work}
use Rattle.core_tree.specs.Names.{AllMatch}
use Rattle.unit_scopes.specs.Asks.{AreWithin, idents_of}
use Rattle.unit_scopes.specs.Forgotten.{AreAtRoot}
use Rattle.unit_scopes.specs.Kept.{NoteFor}
use Rattle.unit_scopes.specs.Outcomes.{At}
use Rattle.declared_again.specs.Endings.{IsEarlier, NoteAtRoot}
use Rattle.declared_parts.specs.Going.{note_at, notes_first}
use Rattle.declared_parts.specs.Parts.{OwnNoteFor}
use Rattle.declared_parts.specs.declared.parts.OwnNote as code
use Rattle.declared_parts.specs.declared.parts.OwnNote.TheVariants as own
use Rattle.declared_parts.proofs.EachLaws.{each_both}

-- ---- lists that match

pub matched_last : {X Y : Type 0} (P : X → Y → Type 0) (xs : List X) (ys : List Y) (x : X) (y : Y) → AllMatch P xs ys → P x y → AllMatch P (xs ++ x ∷ []) (ys ++ y ∷ [])
matched_last P [] [] x y h p = (p, tt)
matched_last P [] (z ∷ ys) x y h p = absurd h
matched_last P (z ∷ xs) [] x y h p = absurd h
matched_last P (z ∷ xs) (w ∷ ys) x y h p = (h.0, matched_last P xs ys x y h.1 p)

pub matched_length : {X Y : Type 0} (P : X → Y → Type 0) (xs : List X) (ys : List Y) → AllMatch P xs ys → length xs ≡ length ys
matched_length P [] [] h = refl
matched_length P [] (y ∷ ys) h = absurd h
matched_length P (x ∷ xs) [] h = absurd h
matched_length P (x ∷ xs) (y ∷ ys) h = ap suc (matched_length P xs ys h.1)

pub matched_take : {X Y : Type 0} (P : X → Y → Type 0) (xs : List X) (ys : List Y) (n : ℕ) → AllMatch P xs ys → AllMatch P (take n xs) (take n ys)
matched_take P [] [] zero h = tt
matched_take P [] [] (suc n) h = tt
matched_take P [] (y ∷ ys) n h = absurd h
matched_take P (x ∷ xs) [] n h = absurd h
matched_take P (x ∷ xs) (y ∷ ys) zero h = tt
matched_take P (x ∷ xs) (y ∷ ys) (suc n) h = (h.0, matched_take P xs ys n h.1)

pub matched_drop : {X Y : Type 0} (P : X → Y → Type 0) (xs : List X) (ys : List Y) (n : ℕ) → AllMatch P xs ys → AllMatch P (drop n xs) (drop n ys)
matched_drop P xs ys zero h = h
matched_drop P [] [] (suc n) h = tt
matched_drop P [] (y ∷ ys) (suc n) h = absurd h
matched_drop P (x ∷ xs) [] (suc n) h = absurd h
matched_drop P (x ∷ xs) (y ∷ ys) (suc n) h = matched_drop P xs ys n h.1

-- what one stands for
pub match_at : {X Y : Type 0} (P : X → Y → Type 0) (xs : List X) (ys : List Y) (k : ℕ) (d : X) → AllMatch P xs ys → k < length xs → (y : Y) × (slice_get ys k ≡ Some y) × P (get_or xs k d) y
match_at P [] [] k d h lt = absurd (omega arith)
match_at P [] (y ∷ ys) k d h lt = absurd h
match_at P (x ∷ xs) [] k d h lt = absurd h
match_at P (x ∷ xs) (y ∷ ys) zero d h lt = (y, refl, h.0)
match_at P (x ∷ xs) (y ∷ ys) (suc k) d h lt = match_at P xs ys k d h.1 (omega arith)

pub taken_more : {X : Type 0} (xs : List X) (k : ℕ) (x : X) → slice_get xs k ≡ Some x → take (suc k) xs ≡ take k xs ++ x ∷ []
taken_more [] k x at = absurd cc
taken_more (y ∷ ys) zero x at = ap (λ z. z ∷ []) (same_Some y x at)
taken_more (y ∷ ys) (suc k) x at = ap (λ l. y ∷ l) (taken_more ys k x at)

-- ---- in the unit's own scope

module _ (work : Work) (ls : List Frames) (root : ℕ) (at : At ls root []) where
  framed : (fs : Frames) → fs ≡ [] → At ls root fs
  framed fs e = subst (At ls root) (sym e) at

  pub note_for : (o : code.OwnNote) (m : Note FramedIdent) → OwnNoteFor work.symbols o m → NoteFor work ls (note_at root o) m
  note_for (own.LookedUp i h k) (LookedUp p head keyword) is = ((framed p.frames is.1, is.0), is.2, is.3)
  note_for (own.LookedUp i h k) (Compared p q held) is = absurd is
  note_for (own.Compared l i h) (LookedUp p head keyword) is = absurd is
  note_for (own.Compared l i h) (Compared p q held) is = ((framed p.frames is.1, is.0), (framed q.frames is.3, is.2), is.4)

pub note_within : (names : Names) (root : ℕ) (o : code.OwnNote) (m : Note FramedIdent) → OwnNoteFor names o m → AreWithin names (idents_of (note_at root o))
note_within names root (own.LookedUp i h k) (LookedUp p head keyword) is = (slice_get_within names.idents i p.ident is.0, tt)
note_within names root (own.LookedUp i h k) (Compared p q held) is = absurd is
note_within names root (own.Compared l i h) (LookedUp p head keyword) is = absurd is
note_within names root (own.Compared l i h) (Compared p q held) is = (slice_get_within names.idents l p.ident is.0, (slice_get_within names.idents i q.ident is.2, tt))

-- ---- at the root

own_at_root : (names : Names) (o : code.OwnNote) (m : Note FramedIdent) → OwnNoteFor names o m → NoteAtRoot m
own_at_root names (own.LookedUp i h k) (LookedUp p head keyword) is = is.1
own_at_root names (own.LookedUp i h k) (Compared p q held) is = absurd is
own_at_root names (own.Compared l i h) (LookedUp p head keyword) is = absurd is
own_at_root names (own.Compared l i h) (Compared p q held) is = (is.1, is.3)

all_at_root : (names : Names) (os : List code.OwnNote) (ms : List (Note FramedIdent)) → AllMatch (OwnNoteFor names) os ms → Each NoteAtRoot ms
all_at_root names [] [] h = tt
all_at_root names [] (m ∷ ms) h = absurd h
all_at_root names (o ∷ os) [] h = absurd h
all_at_root names (o ∷ os) (m ∷ ms) h = (own_at_root names o m h.0, all_at_root names os ms h.1)

each_turned : (ms : List (Note FramedIdent)) → Each NoteAtRoot ms → Each NoteAtRoot (reverse ms)
each_turned [] h = tt
each_turned (m ∷ ms) h = subst (Each NoteAtRoot) (sym (reverse-append (m ∷ []) ms)) (each_both NoteAtRoot (reverse ms) (m ∷ []) (each_turned ms h.1) (h.0, tt))

pub own_root : (names : Names) (os : List code.OwnNote) (ms : List (Note FramedIdent)) → AllMatch (OwnNoteFor names) os (reverse ms) → Each NoteAtRoot ms
own_root names os ms h = subst (Each NoteAtRoot) (reverse-reverse ms) (each_turned (reverse ms) (all_at_root names os (reverse ms) h))

note_root : (m : Note FramedIdent) (ms : List (Note FramedIdent)) → AreAtRoot (m ∷ ms) → NoteAtRoot m
note_root (LookedUp p head keyword) ms h = h.0
note_root (Compared p q held) ms h = h.0

pub unit_root : (ms : List (Note FramedIdent)) → AreAtRoot ms → Each NoteAtRoot ms
unit_root [] h = tt
unit_root (m ∷ ms) h = (note_root m ms h, unit_root ms h.1)

-- ---- so many of them

length_last : (xs : List (Note FramedIdent)) (x : Note FramedIdent) → length (xs ++ x ∷ []) ≡ suc (length xs)
length_last [] x = refl
length_last (y ∷ ys) x = ap suc (length_last ys x)

length_turned : (xs : List (Note FramedIdent)) → length xs ≡ length (reverse xs)
length_turned [] = refl
length_turned (x ∷ xs) = ap suc (length_turned xs) ∙ (sym (length_last (reverse xs) x) ∙ ap length (sym (reverse-append (x ∷ []) xs)))

-- those by an earlier definition are the first of them
pub first_earlier : (ns ms : List (Note FramedIdent)) → IsEarlier ns ms → notes_first (length ns) ms ≡ ns
first_earlier ns ms h =
    ap (λ (l : List (Note FramedIdent)). reverse (take (length ns) (reverse l))) h.1
    ∙ (ap (λ (l : List (Note FramedIdent)). reverse (take (length ns) l)) (reverse-append h.0 ns)
    ∙ (ap reverse (taken_front (reverse ns) (reverse h.0) (length ns) (length_turned ns)) ∙ reverse-reverse ns))
  where
    taken_front : (xs ys : List (Note FramedIdent)) (n : ℕ) → n ≡ length xs → take n (xs ++ ys) ≡ xs
    taken_front [] ys zero e = refl
    taken_front [] ys (suc n) e = let z : suc n ≡ 0 = e in absurd (omega (arith, z))
    taken_front (x ∷ xs) ys zero e = let z : 0 ≡ suc (length xs) = e in absurd (omega (arith, z))
    taken_front (x ∷ xs) ys (suc n) e = let z : suc n ≡ suc (length xs) = e in ap (λ l. x ∷ l) (taken_front xs ys n (omega (arith, z)))

pub earlier_few : (ns ms : List (Note FramedIdent)) → IsEarlier ns ms → length ns ≤ length ms
earlier_few ns ms h = subst (λ (l : List (Note FramedIdent)). length ns ≤ length l) (sym h.1) (front h.0)
  where
    front : (xs : List (Note FramedIdent)) → length ns ≤ length (xs ++ ns)
    front [] = omega arith
    front (x ∷ xs) = let rest = front xs in omega (arith, rest)

-- ---- more of them

abbrev no_notes : List (Note FramedIdent)
no_notes = []

take_none : (m : ℕ) → take m no_notes ≡ []
take_none zero = refl
take_none (suc m) = refl

pub taken_on : (xs : List (Note FramedIdent)) (a n : ℕ) → a ≤ n → take n xs ≡ take a xs ++ take (n - a) (drop a xs)
taken_on xs zero n le = ap (λ m. take m xs) (omega arith)
taken_on [] (suc a) zero le = absurd (omega (arith, le))
taken_on [] (suc a) (suc n) le = sym (take_none (suc n - suc a))
taken_on (x ∷ xs) (suc a) zero le = absurd (omega (arith, le))
taken_on (x ∷ xs) (suc a) (suc n) le =
    let same : n - a ≡ suc n - suc a = omega arith in
    ap (λ l. x ∷ l) (taken_on xs a n (omega (arith, le)) ∙ ap (λ m. take a xs ++ take m (drop a xs)) same)

pub first_on : (own : List (Note FramedIdent)) (a n : ℕ) → a ≤ n → reverse (take (n - a) (drop a (reverse own))) ++ notes_first a own ≡ notes_first n own
first_on own a n le =
    let os = reverse own in
    sym (reverse-append (take a os) (take (n - a) (drop a os))) ∙ ap reverse (sym (taken_on os a n le))
