-- What is taken of a form that was gone through stands for what it left in its unit.
use Rattle.std.proofs.Common.{◌≡◌, ℕ, zero, suc, ◌+◌, ◌<◌, List, [], ◌∷◌, ◌++◌, append_assoc, map, length, drop, get_or, slice_get, reverse, Bool, true, false, cond, Option, Some, None, refl, sym, ap, ◌∙◌, subst, arith}
use Rattle.std.specs.List.{Contains}
use Rattle.std.proofs.lemmas.List.{reverse-append, length-reverse}
use Rattle.std.proofs.lemmas.List.Elements.{Contains-append_right}
use Rattle.std.proofs.lemmas.Option.{same_Some}
use Rattle.scheme_model.specs.Ident.{Ident as Identifier}
use Rattle.scheme_model.specs.Meaning.{Meaning, Global}
use Rattle.scheme_model.specs.Order.{Note, LookedUp, Compared, Transformer, is_some}
use Rattle.scheme_model.specs.Questions.{Defines, bare_macro}
use Rattle.scheme_model.specs.RulesShape.{Rules, option_map}
use Rattle.scheme_model.specs.ScopedExpansion.{Frames, FramedIdent, ScopedState, macro_at}
use Rattle.syntax_tree.specs.Macros.{IsIdent}
use Rattle.syntax_tree.specs.declared.meaning.Meaning.TheVariants as meanings
use Rattle.syntax_tree.specs.declared.trees.Work.{Work}
use Rattle.core_tree.specs.Names.{AllMatch}
use Rattle.form_notes.specs.Noted.{Noted, Since}
use Rattle.form_notes.specs.Standing.{IsQuestion, IsNote, InOrder, RisesTo}
use Rattle.form_notes.specs.declared.notes.Note as code_note
use Rattle.form_notes.specs.declared.notes.Outcome.TheVariants as outcomes
use Rattle.form_notes.specs.declared.notes.Question as code_question
use Rattle.form_notes.specs.declared.notes.Question.TheVariants as questions
use Rattle.unit_scopes.specs.Editions.{EditionsTell}
use Rattle.unit_scopes.specs.Forgotten.{IsAtRoot, AreAtRoot}
use Rattle.unit_scopes.specs.Kept.{NoteFor, NotesFor}
use Rattle.unit_scopes.specs.Macros.{macro_in, edition_of}
use Rattle.unit_scopes.specs.State.{IsMacro, IsMacroIfAny, Rests}
use Rattle.unit_scopes.specs.declared.asked.Asked.{Asked}
use Rattle.unit_scopes.specs.declared.asked.Note as unit_note
use Rattle.unit_scopes.specs.declared.asked.Note.TheVariants as unit_notes
use Rattle.unit_scopes.specs.declared.macros.Macro.{Macro}
use Rattle.unit_scopes.specs.declared.macros.Macros.{Macros}
use Rattle.unit_scopes.specs.declared.scope.UnitScope.{UnitScope}
use Rattle.declared_parts.specs.Parts.{without_scopes, OwnNoteFor, keyword_made, keyword_notes, kept_as, kept_if, macro_taken, macros_taken, rules_defined, IsKeptMacro, MacrosThere}
use Rattle.declared_parts.specs.declared.parts.KeptMacro.{KeptMacro}
use Rattle.declared_parts.specs.declared.parts.OwnNote as own_note

-- ---- lists

-- a list from its item at a place on
pub item_then : {X : Type 0} (k : ℕ) (xs : List X) (d : X) → k < length xs → drop k xs ≡ get_or xs k d ∷ drop (k + 1) xs
item_then k [] d l = absurd (omega (arith, l))
item_then zero (x ∷ xs) d l = refl
item_then (suc k) (x ∷ xs) d l = let e : suc (k + 1) ≡ suc k + 1 = omega arith in item_then k xs d (omega (arith, l)) ∙ ap (λ (n : ℕ). get_or xs k d ∷ drop n (x ∷ xs)) e

-- and so from the item that is there
pub item_at : {X : Type 0} (k : ℕ) (xs : List X) (x : X) → slice_get xs k ≡ Some x → drop k xs ≡ x ∷ drop (k + 1) xs
item_at k [] x e = absurd cc
item_at zero (y ∷ xs) x e = let same : y ≡ x = same_Some y x e in ap (λ z. z ∷ xs) same
item_at (suc k) (y ∷ xs) x e = let n : suc (k + 1) ≡ suc k + 1 = omega arith in item_at k xs x e ∙ ap (λ (m : ℕ). x ∷ drop m (y ∷ xs)) n

drop_matched : {X Y : Type 0} (P : X → Y → Type 0) (xs : List X) (ys zs : List Y) → AllMatch P xs (ys ++ zs) → AllMatch P (drop (length ys) xs) zs
drop_matched P xs [] zs h = h
drop_matched P [] (y ∷ ys) zs h = absurd h
drop_matched P (x ∷ xs) (y ∷ ys) zs h = drop_matched P xs ys zs h.1

-- ---- what was looked up and compared

roots_both : (ns ms : List (Note FramedIdent)) → AreAtRoot ns → AreAtRoot ms → AreAtRoot (ns ++ ms)
roots_both [] ms h g = g
roots_both (n ∷ ns) ms h g = (h.0, roots_both ns ms h.1 g)

roots_back : (ns : List (Note FramedIdent)) → AreAtRoot ns → AreAtRoot (reverse ns)
roots_back [] h = tt
roots_back (n ∷ ns) h = subst AreAtRoot (sym (reverse-append (n ∷ []) ns)) (roots_both (reverse ns) (n ∷ []) (roots_back ns h.1) (h.0, tt))

own_one : (work : Work) (ls : List Frames) (x : unit_note.Note) (n : Note FramedIdent) → NoteFor work ls x n → IsAtRoot n → OwnNoteFor work.symbols (without_scopes x) n
own_one work ls (unit_notes.LookedUp a h k) (LookedUp p head keyword) f root = (f.0.1, root, f.1, f.2)
own_one work ls (unit_notes.LookedUp a h k) (Compared p q held) f root = absurd f
own_one work ls (unit_notes.Compared l a h) (LookedUp p head keyword) f root = absurd f
own_one work ls (unit_notes.Compared l a h) (Compared p q held) f root = (f.0.1, root.0, f.1.1, root.1, f.2)

own_all : (work : Work) (ls : List Frames) (xs : List unit_note.Note) (ns : List (Note FramedIdent)) → AllMatch (NoteFor work ls) xs ns → AreAtRoot ns → AllMatch (OwnNoteFor work.symbols) (map without_scopes xs) ns
own_all work ls [] [] h roots = tt
own_all work ls [] (n ∷ ns) h roots = absurd h
own_all work ls (x ∷ xs) [] h roots = absurd h
own_all work ls (x ∷ xs) (n ∷ ns) h roots = (own_one work ls x n h.0 roots.0, own_all work ls xs ns h.1 roots.1)

-- one more
pub own_more : (k : ℕ) (xs : List unit_note.Note) (x : unit_note.Note) (y : own_note.OwnNote) (old new all : List own_note.OwnNote) → slice_get xs k ≡ Some x → y ≡ without_scopes x → new ≡ old ++ y ∷ [] → old ++ map without_scopes (drop k xs) ≡ all → new ++ map without_scopes (drop (k + 1) xs) ≡ all
own_more k xs x y old new all at is added so_far =
    let rest = map without_scopes (drop (k + 1) xs) in
    ap (λ (ys : List own_note.OwnNote). ys ++ rest) added
    ∙ (append_assoc old (y ∷ []) rest
    ∙ (ap (λ (z : own_note.OwnNote). old ++ z ∷ rest) is ∙ (ap (λ (zs : List unit_note.Note). old ++ map without_scopes zs) (sym (item_at k xs x at)) ∙ so_far)))

-- the notes behind those that the unit had
pub own_asked : (work : Work) (ls : List Frames) (asked : Asked) (own found : List (Note FramedIdent)) (from : ℕ) → NotesFor work ls asked (own ++ found) → AreAtRoot own → from ≡ length found →
    AllMatch (OwnNoteFor work.symbols) (map without_scopes (drop from asked.notes.items)) (reverse own)
own_asked work ls asked own found from h roots count =
    let all = subst (AllMatch (NoteFor work ls) asked.notes.items) (reverse-append own found) h.notes in
    let behind = drop_matched (NoteFor work ls) asked.notes.items (reverse found) (reverse own) all in
    let same : length (reverse found) ≡ from = length-reverse found ∙ sym count in
    own_all work ls (drop from asked.notes.items) (reverse own) (subst (λ (n : ℕ). AllMatch (NoteFor work ls) (drop n asked.notes.items) (reverse own)) same behind) (roots_back own roots)

-- ---- macros

if_keyword : (b : Bool) (i n : ℕ) → cond b (Some i) None ≡ Some n → (b ≡ true) × (i ≡ n)
if_keyword true i n e = (refl, same_Some i n e)
if_keyword false i n e = absurd cc

if_rules : (o : Option (Rules Identifier)) → is_some o ≡ true → (rules : Rules Identifier) × (o ≡ Some rules)
if_rules None e = absurd cc
if_rules (Some rules) e = (rules, refl)

if_macro : (work : Work) (ls : List Frames) (o : Option Macro) (t : Transformer Frames Identifier) → IsMacroIfAny work ls o (Some t) → (k : Macro) × (o ≡ Some k) × IsMacro work ls k t
if_macro work ls None t h = absurd h
if_macro work ls (Some k) t h = (k, refl, h)

module _ (work : Work) (ls : List Frames) (u : UnitScope) (s : ScopedState) (r : Since) (ms : List Noted) (rests : Rests work u ls s) (macros : MacrosThere s ms) (tells : EditionsTell work.symbols u.macros s r.editions) where
  abbrev form : ℕ
  form = u.form.number

  -- what a definition made
  record Made (n : ℕ) (m : Noted) : Type 0 where
    pub name : Identifier
    pub rules : Rules Identifier
    pub is : IsIdent work.symbols n name
    pub defines : rules_defined m.question ≡ Some rules
    pub there : macro_at s.macros (Global s.unit name) ≡ Some (record { env = []; rules = rules })

  made_by : (q : code_question.Question) (n : ℕ) (m : Noted) → Contains ms m → IsQuestion work.symbols r q m.question m.answer → keyword_made q ≡ Some n → Made n m
  made_by (questions.Lookup i meaning keyword) n m c h e = absurd cc
  made_by (questions.Literal l i holds) n m c h e = absurd cc
  made_by (questions.Rules meaning edition) n m c h e = absurd cc
  made_by (questions.Assigned i is) n m c h e = absurd cc
  made_by (questions.Library name is) n m c h e = absurd cc
  made_by (questions.Definition d outcomes.Redefines) n m c h e = absurd cc
  made_by (questions.Definition d outcomes.StoodBefore) n m c h e = absurd cc
  made_by (questions.Definition d outcomes.Stands) n m c h e =
      let k = if_keyword d.keyword d.ident n e in
      let p = if_rules h.2 (sym h.6.keyword ∙ k.0) in
      let q : m.question ≡ Defines h.0 h.1 (Some p.0) h.3 = h.4 ∙ ap (λ (o : Option (Rules Identifier)). Defines h.0 h.1 o h.3) p.1 in
      record {
        name = h.1.name;
        rules = p.0;
        is = subst (λ (i : ℕ). IsIdent work.symbols i h.1.name) k.1 h.6.name;
        defines = ap rules_defined q;
        there = macros m h.0 h.1 p.0 h.3 c q h.5;
      }

  record Kept (n : ℕ) (x : code_note.Note) : Type 0 where
    pub macro : Macro
    pub there : macro_in u.macros form (meanings.Global u.unit n) ≡ Some macro
    pub is : IsKeptMacro work r ms (kept_as n macro) x

  -- so it is kept
  kept_one : (x : code_note.Note) (n : ℕ) (m : Noted) → Contains ms m → IsNote work.symbols r x m → keyword_made x.question ≡ Some n → Kept n x
  kept_one x n m c is e =
      let d = made_by x.question n m c is.1 e in
      let g : Meaning = Global s.unit d.name in
      let t : Transformer Frames Identifier = record { env = []; rules = d.rules } in
      let o = macro_in u.macros form (meanings.Global u.unit n) in
      let k = if_macro work ls o t (subst (IsMacroIfAny work ls o) d.there (rests.macros.there form (meanings.Global u.unit n) g (rests.unit, d.is))) in
      let told : r.editions (edition_of o) ≡ option_map bare_macro (macro_at s.macros g) = tells.tells form (meanings.Global u.unit n) g (rests.unit, d.is) refl in
      record {
        macro = k.0;
        there = k.1;
        is = record {
          keyword = e;
          noted = m;
          there = c;
          is = is;
          rules = d.rules;
          defines = d.defines;
          checked = k.2.checked;
          stands = k.2.rules;
          leaves = k.2.leaves;
          edition = sym (ap (λ (x : Option Macro). r.editions (edition_of x)) k.1) ∙ (told ∙ ap (option_map bare_macro) d.there);
        };
      }

  kept_first : (o : Option ℕ) (x : code_note.Note) (xs : List code_note.Note) → keyword_made x.question ≡ o → (m : Noted) × Contains ms m × IsNote work.symbols r x m → AllMatch (IsKeptMacro work r ms) (macros_taken u.macros form u.unit xs) (keyword_notes xs) →
      AllMatch (IsKeptMacro work r ms) (macro_taken u.macros form u.unit o ++ macros_taken u.macros form u.unit xs) (cond (is_some o) (x ∷ keyword_notes xs) (keyword_notes xs))
  kept_first None x xs e m rest = rest
  kept_first (Some n) x xs e m rest =
      let k = kept_one x n m.0 m.1 m.2 e in
      subst (λ (o : Option Macro). AllMatch (IsKeptMacro work r ms) (kept_if n o ++ macros_taken u.macros form u.unit xs) (x ∷ keyword_notes xs)) (sym k.there) (k.is, rest)

  pub kept_all : (xs : List code_note.Note) → ((x : code_note.Note) → Contains xs x → (m : Noted) × Contains ms m × IsNote work.symbols r x m) → AllMatch (IsKeptMacro work r ms) (macros_taken u.macros form u.unit xs) (keyword_notes xs)
  kept_all [] told = tt
  kept_all (x ∷ xs) told =
      let first : Contains (x ∷ xs) x = (zero, omega arith, refl) in
      kept_first (keyword_made x.question) x xs refl (told x first) (kept_all xs (λ y c. told y (Contains-append_right (x ∷ []) xs y c)))

-- one note more
pub taken_more : (macros : Macros) (form unit k : ℕ) (xs : List code_note.Note) (x : code_note.Note) (old new : List KeptMacro) → drop k xs ≡ x ∷ drop (k + 1) xs → new ≡ old ++ macro_taken macros form unit (keyword_made x.question) →
    old ++ macros_taken macros form unit (drop k xs) ≡ macros_taken macros form unit xs → new ++ macros_taken macros form unit (drop (k + 1) xs) ≡ macros_taken macros form unit xs
taken_more macros form unit k xs x old new split added so_far =
    let rest = macros_taken macros form unit (drop (k + 1) xs) in
    ap (λ (ks : List KeptMacro). ks ++ rest) added
    ∙ (append_assoc old (macro_taken macros form unit (keyword_made x.question)) rest
    ∙ (ap (λ (ys : List code_note.Note). old ++ macros_taken macros form unit ys) (sym split) ∙ so_far))

-- ---- notes in order

none_there : {X : Type 0} (xs : List X) → length xs ≡ 0 → xs ≡ []
none_there [] e = refl
none_there (x ∷ xs) e = absurd (omega (arith, e))

pub all_rise : (first : ℕ) (xs : List code_note.Note) (made : ℕ) → InOrder first xs made → first ≡ 0 → RisesTo xs 0 made
all_rise first xs made o none =
    let before = none_there o.before (o.count ∙ none) in
    subst (λ (ys : List code_note.Note). RisesTo ys 0 made) (sym (o.split ∙ ap (λ (ys : List code_note.Note). ys ++ o.since) before)) o.rises
