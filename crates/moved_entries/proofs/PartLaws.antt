-- What a form left in its unit stands under other numbers for what it stood for.
use Rattle.std.proofs.Common.{◌≡◌, ℕ, List, [], ◌∷◌, ◌++◌, map, length, reverse, Bool, true, false, Option, refl, sym, ap, ◌∙◌, subst, arith}
use Rattle.std.specs.Prelude.{if◌then◌else◌}
use Rattle.std.proofs.lemmas.List.{reverse-append, map-append}
use Rattle.scheme_model.specs.Ident.{Ident as Identifier}
use Rattle.scheme_model.specs.Leaves.{Leaf, leaves_of}
use Rattle.scheme_model.specs.Order.{Note, LookedUp, Compared, is_some}
use Rattle.scheme_model.specs.Questions.{Question, LooksUp, UsesRules, Compares, IsAssigned, Requires, Defines}
use Rattle.scheme_model.specs.RulesShape.{option_map}
use Rattle.scheme_model.specs.ScopedExpansion.{FramedIdent}
use Rattle.syntax_tree.specs.Names.{Names}
use Rattle.syntax_tree.specs.Macros.{identifiers}
use Rattle.syntax_tree.specs.declared.trees.Work.{Work}
use Rattle.rules_check.specs.Gathered.{AreLeaves}
use Rattle.rules_check.specs.declared.leaf.RuleLeaf.{RuleLeaf}
use Rattle.core_tree.specs.Names.{AllMatch}
use Rattle.form_notes.specs.Noted.{Noted, Since}
use Rattle.form_notes.specs.Standing.{HaveNotes, InOrder, RisesTo}
use Rattle.form_notes.specs.declared.notes.Note as code_note
use Rattle.form_notes.specs.declared.notes.Outcome as outcome
use Rattle.form_notes.specs.declared.notes.Outcome.TheVariants as outcomes
use Rattle.form_notes.specs.declared.notes.Question as code_question
use Rattle.form_notes.specs.declared.notes.Question.TheVariants as questions
use Rattle.renumbering_laws.specs.Moving.{move_rules}
use Rattle.renumbering_laws.specs.Renumbering.{Renumbering, IsOneToOne, place, change}
use Rattle.renumbering_laws.specs.Asked.{new_question, new_macro, new_note, new_frames}
use Rattle.renumbering_laws.proofs.MovedLeaves.{leaves_of-map}
use Rattle.renumbering_laws.proofs.MovedParts.{move_leaf}
use Rattle.moves.specs.Works.{NamesMove, WorkMoves}
use Rattle.moves.proofs.EntryLaws.{ident_there}
use Rattle.moved_numbers.specs.Notes.{question_as, note_as, noted_as, SinceMoves}
use Rattle.moved_numbers.proofs.Fronts.{each_there}
use Rattle.moved_numbers.proofs.LeafLaws.{KeepsDefinitions, rules_there}
use Rattle.moved_numbers.proofs.NoteLaws.{note_there, order_there}
use Rattle.declared_parts.specs.Parts.{OwnNoteFor, keyword_made, keyword_notes, rules_defined, IsKeptMacro, IsPart}
use Rattle.declared_parts.specs.declared.parts.DeclaredPart.{DeclaredPart}
use Rattle.declared_parts.specs.declared.parts.KeptMacro.{KeptMacro}
use Rattle.declared_parts.specs.declared.parts.OwnNote as own_note
use Rattle.declared_parts.specs.declared.parts.OwnNote.TheVariants as own
use Rattle.declared_parts.proofs.EachLaws.{contained_map}
use Rattle.moved_entries.specs.Part.{leaf_as, kept_as, PartStands}
use Rattle.moved_entries.proofs.CheckedRules.{told_apart, still_checked}

-- ---- notes

module _ (r : Renumbering) where
  keyword_same : (q : code_question.Question) → keyword_made (question_as r q) ≡ keyword_made q
  keyword_same (questions.Lookup n m k) = refl
  keyword_same (questions.Literal l n h) = refl
  keyword_same (questions.Rules m e) = refl
  keyword_same (questions.Assigned n h) = refl
  keyword_same (questions.Library n h) = refl
  keyword_same (questions.Definition d o) = ends_so o
    where
      ends_so : (o : outcome.Outcome) → keyword_made (question_as r (questions.Definition d o)) ≡ keyword_made (questions.Definition d o)
      ends_so outcomes.Stands = refl
      ends_so outcomes.Redefines = refl
      ends_so outcomes.StoodBefore = refl

  keywords_there : (xs : List code_note.Note) → keyword_notes (map (note_as r) xs) ≡ map (note_as r) (keyword_notes xs)
  keywords_there [] = refl
  keywords_there (x ∷ xs) =
      ap (λ (o : Option ℕ). if is_some o then note_as r x ∷ keyword_notes (map (note_as r) xs) else keyword_notes (map (note_as r) xs)) (keyword_same x.question)
      ∙ (ap (λ (ys : List code_note.Note). if is_some (keyword_made x.question) then note_as r x ∷ ys else ys) (keywords_there xs) ∙ front (is_some (keyword_made x.question)) x (keyword_notes xs))
    where
      front : (b : Bool) (x : code_note.Note) (ys : List code_note.Note) → (if b then note_as r x ∷ map (note_as r) ys else map (note_as r) ys) ≡ map (note_as r) (if b then x ∷ ys else ys)
      front true x ys = refl
      front false x ys = refl

  rules_moved : (q : Question) → rules_defined (new_question r q) ≡ option_map (move_rules (change r)) (rules_defined q)
  rules_moved (LooksUp i) = refl
  rules_moved (UsesRules m) = refl
  rules_moved (Compares l i) = refl
  rules_moved (IsAssigned i) = refl
  rules_moved (Requires l) = refl
  rules_moved (Defines fs x rs ns) = refl

  reverse_map : {X Y : Type 0} (f : X → Y) (xs : List X) → reverse (map f xs) ≡ map f (reverse xs)
  reverse_map f [] = refl
  reverse_map f (x ∷ xs) =
      reverse-append (f x ∷ []) (map f xs) ∙ ap (λ ys. ys ++ f x ∷ []) (reverse_map f xs) ∙ sym (map-append f (reverse xs) (x ∷ [])) ∙ ap (map f) (sym (reverse-append (x ∷ []) xs))

  -- notes from the first one on
  all_in_order : (xs : List code_note.Note) (made : ℕ) → RisesTo xs 0 made → RisesTo (map (note_as r) xs) 0 made
  all_in_order xs made h = whole (map (note_as r) xs) made (order_there r xs 0 made (record { before = []; since = xs; split = refl; count = refl; rises = h }))
    where
      none : (ys : List code_note.Note) → length ys ≡ 0 → ys ≡ []
      none [] e = refl
      none (y ∷ ys) e = absurd (omega (arith, e))

      whole : (ys : List code_note.Note) (n : ℕ) → InOrder 0 ys n → RisesTo ys 0 n
      whole ys n o = subst (λ (zs : List code_note.Note). RisesTo zs 0 n) (sym (o.split ∙ ap (λ (zs : List code_note.Note). zs ++ o.since) (none o.before o.count))) o.rises

  module _ (old now : Work) (moves : WorkMoves r old now) where
    own_there : (c : own_note.OwnNote) (n : Note FramedIdent) → OwnNoteFor old.symbols c n → OwnNoteFor now.symbols c (new_note r n)
    own_there (own.LookedUp i h k) (LookedUp p head keyword) s = (ident_there r old.symbols now.symbols moves.names i p.ident s.0, ap (new_frames r) s.1, s.2, s.3)
    own_there (own.LookedUp i h k) (Compared p q held) s = absurd s
    own_there (own.Compared l i h) (LookedUp p head keyword) s = absurd s
    own_there (own.Compared l i h) (Compared p q held) s =
        (ident_there r old.symbols now.symbols moves.names l p.ident s.0, ap (new_frames r) s.1, ident_there r old.symbols now.symbols moves.names i q.ident s.2, ap (new_frames r) s.3, s.4)

    all_own : (cs : List own_note.OwnNote) (ns : List (Note FramedIdent)) → AllMatch (OwnNoteFor old.symbols) cs ns → AllMatch (OwnNoteFor now.symbols) cs (map (new_note r) ns)
    all_own [] [] h = tt
    all_own [] (n ∷ ns) h = absurd h
    all_own (c ∷ cs) [] h = absurd h
    all_own (c ∷ cs) (n ∷ ns) h = (own_there c n h.0, all_own cs ns h.1)

    -- ---- macros

    leaves_there : (ls : List RuleLeaf) (ms : List (Leaf Identifier)) → AreLeaves old.symbols ls ms → AreLeaves now.symbols (map (leaf_as r) ls) (map (move_leaf (change r)) ms)
    leaves_there [] [] h = tt
    leaves_there [] (m ∷ ms) h = absurd h
    leaves_there (l ∷ ls) [] h = absurd h
    leaves_there (l ∷ ls) (m ∷ ms) h = (((ident_there r old.symbols now.symbols moves.names l.name.ident m.leaf.name h.0.0.0, ap (place r) h.0.0.1), h.0.1), leaves_there ls ms h.1)

    module _ (keeps : KeepsDefinitions r) (one : IsOneToOne r) (s t : Since) (since : SinceMoves r s t) where
      kept_macro : (ms : List Noted) (k : KeptMacro) (x : code_note.Note) → IsKeptMacro old s ms k x → IsKeptMacro now t (map (noted_as r) ms) (kept_as r k) (note_as r x)
      kept_macro ms k x h = record {
        keyword = keyword_same x.question ∙ h.keyword;
        noted = noted_as r h.noted;
        there = contained_map (noted_as r) ms h.noted h.there;
        is = note_there r old.symbols now.symbols moves.names s t since x h.noted h.is;
        rules = move_rules (change r) h.rules;
        defines = rules_moved h.noted.question ∙ ap (option_map (move_rules (change r))) h.defines;
        checked = (move_rules (change r) h.checked.0, rules_there r keeps old now moves k.rules h.checked.0 h.checked.1, still_checked r one h.checked.0 h.checked.2);
        stands = rules_there r keeps old now moves k.rules h.rules h.stands;
        leaves = subst (AreLeaves now.symbols (map (leaf_as r) k.leaves)) (sym (leaves_of-map Identifier Identifier (change r) identifiers identifiers (told_apart r one) h.rules)) (leaves_there k.leaves (leaves_of identifiers h.rules) h.leaves);
        edition = since.editions k.edition ∙ ap (option_map (new_macro r)) h.edition;
      }

      part_there : (x y : DeclaredPart) (own : List (Note FramedIdent)) (ms : List Noted) → y.asked ≡ x.asked → y.notes ≡ map (note_as r) x.notes → y.macros ≡ map (kept_as r) x.macros → HaveNotes now.symbols t y.notes (map (noted_as r) ms) →
          IsPart old s x own ms → IsPart now t y (map (new_note r) own) (map (noted_as r) ms)
      part_there x y own ms asked notes macros have h = record {
        asked = subst (λ (cs : List own_note.OwnNote). AllMatch (OwnNoteFor now.symbols) cs (reverse (map (new_note r) own))) (sym asked)
            (subst (AllMatch (OwnNoteFor now.symbols) x.asked) (sym (reverse_map (new_note r) own)) (all_own x.asked (reverse own) h.asked));
        notes = have;
        made = h.made;
        order = subst (λ (xs : List code_note.Note). RisesTo xs 0 h.made) (sym notes) (all_in_order x.notes h.made h.order);
        macros = subst (λ (xs : List code_note.Note). AllMatch (IsKeptMacro now t (map (noted_as r) ms)) y.macros (keyword_notes xs)) (sym notes)
            (subst (AllMatch (IsKeptMacro now t (map (noted_as r) ms)) y.macros) (sym (keywords_there x.notes))
            (subst (λ (ks : List KeptMacro). AllMatch (IsKeptMacro now t (map (noted_as r) ms)) ks (map (note_as r) (keyword_notes x.notes))) (sym macros)
            (each_there (IsKeptMacro old s ms) (IsKeptMacro now t (map (noted_as r) ms)) (kept_as r) (note_as r) (kept_macro ms) x.macros (keyword_notes x.notes) h.macros)));
      }

-- what a form left in its unit
pub part_on : (r : Renumbering) → KeepsDefinitions r → (x y : DeclaredPart) → y.asked ≡ x.asked → y.notes ≡ map (note_as r) x.notes →
    ((old now : Names) (s t : Since) (ms : List Noted) → NamesMove r old now → SinceMoves r s t → HaveNotes old s x.notes ms → HaveNotes now t y.notes (map (noted_as r) ms)) → y.macros ≡ map (kept_as r) x.macros → PartStands r x y
part_on r keeps x y asked notes stand macros one old now s t own ms moves since h =
    part_there r old now moves keeps one s t since x y own ms asked notes macros (stand old.symbols now.symbols s t ms moves.names since h.notes) h
