-- Where all numbers to which a renumbering leads in what a form asks, and in an answer, are kept by another, these are sent alike by each renumbering that
-- sends such numbers so.
use Rattle.std.proofs.Common.{◌≡◌, ℕ, List, [], ◌∷◌, map, Option, Some, None, refl, ap}
use Rattle.scheme_model.specs.declared.Occ.{Occ}
use Rattle.scheme_model.specs.Identifiers.{Number}
use Rattle.scheme_model.specs.Ident.{Ident, Written, Inserted}
use Rattle.scheme_model.specs.ExpansionFaults.{Named}
use Rattle.scheme_model.specs.Meaning.{Meaning, Local, Global, Standard, Free}
use Rattle.scheme_model.specs.Trees.{Tree, name, atom, list, vector, Trees, no_trees, tree, Tail, proper, dotted}
use Rattle.scheme_model.specs.RulesShape.{Rule, Rules, option_map}
use Rattle.scheme_model.specs.Cores.{Target, MacroUse}
use Rattle.scheme_model.specs.Order.{Note, LookedUp, Compared, Transformer}
use Rattle.scheme_model.specs.Substitution.{Defined}
use Rattle.scheme_model.specs.ScopedExpansion.{Frame, Bind, Enter, Frames, FramedIdent, BodyDefinition, UsePlace, ScopedMacro}
use Rattle.scheme_model.specs.Questions.{Moment, Question, LooksUp, UsesRules, Compares, IsAssigned, Requires, Defines, Answer, Means, Expands, Says, Ends}
use Rattle.renumbering_laws.specs.Moving.{move_tree, move_trees, move_tail, move_named, move_rule, move_rules}
use Rattle.renumbering_laws.specs.Renumbering.{Renumbering, number, occ_at, place, ident, meaning, change, target, macro_use_as}
use Rattle.renumbering_laws.specs.States.{defined_as}
use Rattle.renumbering_laws.specs.Asked.{new_frame, new_frames, new_framed, new_note, new_macro, new_kept, new_use, new_definition, new_moment, new_question, new_answer, new_asked}
use Rattle.agreeing_numbers.proofs.Agreeing.{same_head, same_tail}

-- each number is itself
abbrev pub itself : Renumbering
itself = record { unit = λ u. u; form = λ u f. f; definition = λ u n. n }

-- ---- parts

abbrev or_this : {X : Type 0} → X → Option X → X
or_this d None = d
or_this d (Some x) = x

abbrev written_or : ℕ → Ident → ℕ
written_or d (Written u s) = u
written_or d (Inserted i k) = d

abbrev inner_or : Ident → Ident → Ident
inner_or d (Written u s) = d
inner_or d (Inserted i k) = i

abbrev use_or : Number → Ident → Number
use_or d (Written u s) = d
use_or d (Inserted i k) = k

abbrev local_or : Number → Meaning → Number
local_or d (Local v) = v
local_or d (Global u i) = d
local_or d (Standard s) = d
local_or d (Free s) = d

abbrev global_or : ℕ → Meaning → ℕ
global_or d (Local v) = d
global_or d (Global u i) = u
global_or d (Standard s) = d
global_or d (Free s) = d

abbrev meant_or : Ident → Meaning → Ident
meant_or d (Local v) = d
meant_or d (Global u i) = i
meant_or d (Standard s) = d
meant_or d (Free s) = d

abbrev name_or : Ident → Tree Ident → Ident
name_or d (name i o) = i
name_or d (atom a o) = d
name_or d (list ts end o) = d
name_or d (vector ts o) = d

abbrev place_in : Tree Ident → Option Occ
place_in (name i o) = o
place_in (atom a o) = o
place_in (list ts end o) = o
place_in (vector ts o) = o

abbrev parts_in : Tree Ident → Trees Ident
parts_in (name i o) = no_trees
parts_in (atom a o) = no_trees
parts_in (list ts end o) = ts
parts_in (vector ts o) = ts

abbrev end_in : Tree Ident → Tail Ident
end_in (name i o) = proper
end_in (atom a o) = proper
end_in (list ts end o) = end
end_in (vector ts o) = proper

abbrev first_or : Tree Ident → Trees Ident → Tree Ident
first_or d no_trees = d
first_or d (tree t ts) = t

abbrev rest_in : Trees Ident → Trees Ident
rest_in no_trees = no_trees
rest_in (tree t ts) = ts

abbrev dotted_or : Tree Ident → Tail Ident → Tree Ident
dotted_or d proper = d
dotted_or d (dotted t) = t

abbrev bound_or : Ident → Frame → Ident
bound_or d (Bind x v) = x
bound_or d (Enter k c) = d

abbrev frame_number : Frame → Number
frame_number (Bind x v) = v
frame_number (Enter k c) = k

abbrev one_of : FramedIdent → Note FramedIdent → FramedIdent
one_of d (LookedUp l h k) = l
one_of d (Compared l m h) = l

abbrev other_of : FramedIdent → Note FramedIdent → FramedIdent
other_of d (LookedUp l h k) = d
other_of d (Compared l m h) = m

-- ---- lists and options

module _ {X : Type 0} (m n g h : X → X) (one : (x : X) → m (g x) ≡ n (g x) → g x ≡ h x) where
  all_follow : (xs : List X) → map m (map g xs) ≡ map n (map g xs) → map g xs ≡ map h xs
  all_follow [] e = refl
  all_follow (x ∷ xs) e = let a = one x (same_head m n (g x) (map g xs) e) in let b = all_follow xs (same_tail m n (g x) (map g xs) e) in λ j. a j ∷ b j

  some_follows : (o : Option X) → option_map m (option_map g o) ≡ option_map n (option_map g o) → option_map g o ≡ option_map h o
  some_follows None e = refl
  some_follows (Some x) e = ap (λ y. Some y) (one x (ap (or_this (m (g x))) e))

module _ (p r q : Renumbering) (units : (u : ℕ) → r.unit u ≡ p.unit (r.unit u) → r.unit u ≡ q.unit u)
    (forms : (u f : ℕ) → r.unit u ≡ p.unit (r.unit u) → r.form u f ≡ p.form (r.unit u) (r.form u f) → r.form u f ≡ q.form u f) where
  abbrev Follow : {X : Type 0} → (Renumbering → X → X) → X → Type 0
  Follow new x = new itself (new r x) ≡ new p (new r x) → new r x ≡ new q x

  -- ---- numbers and identifiers

  number_follows : (k : Number) → Follow number k
  number_follows k e =
      let a : r.unit k.unit ≡ p.unit (r.unit k.unit) = ap (λ (x : Number). x.unit) e in
      let b : r.form k.unit k.form ≡ p.form (r.unit k.unit) (r.form k.unit k.form) = ap (λ (x : Number). x.form) e in
      let x = units k.unit a in let y = forms k.unit k.form a b in λ j. record { unit = x j; form = y j; count = k.count }

  occ_follows : (o : Occ) → Follow occ_at o
  occ_follows o e =
      let a : r.unit o.unit ≡ p.unit (r.unit o.unit) = ap (λ (x : Occ). x.unit) e in
      let b : r.form o.unit o.form ≡ p.form (r.unit o.unit) (r.form o.unit o.form) = ap (λ (x : Occ). x.form) e in
      let x = units o.unit a in let y = forms o.unit o.form a b in λ j. record { unit = x j; form = y j; token = o.token }

  place_follows : (o : Option Occ) → Follow place o
  place_follows None e = refl
  place_follows (Some o) e = ap (λ x. Some x) (occ_follows o (ap (or_this (occ_at r o)) e))

  ident_follows : (i : Ident) → Follow ident i
  ident_follows (Written u s) e = ap (λ v. Written v s) (units u (ap (written_or (r.unit u)) e))
  ident_follows (Inserted i k) e =
      let a = ident_follows i (ap (inner_or (ident r i)) e) in let b = number_follows k (ap (use_or (number r k)) e) in λ j. Inserted (a j) (b j)

  meaning_follows : (m : Meaning) → Follow meaning m
  meaning_follows (Local v) e = ap Local (number_follows v (ap (local_or (number r v)) e))
  meaning_follows (Global u i) e =
      let a = units u (ap (global_or (r.unit u)) e) in let b = ident_follows i (ap (meant_or (ident r i)) e) in λ j. Global (a j) (b j)
  meaning_follows (Standard s) e = refl
  meaning_follows (Free s) e = refl

  -- ---- trees

  abbrev tree_as : Renumbering → Tree Ident → Tree Ident
  tree_as z = move_tree (change z)

  abbrev trees_as : Renumbering → Trees Ident → Trees Ident
  trees_as z = move_trees (change z)

  abbrev tail_as : Renumbering → Tail Ident → Tail Ident
  tail_as z = move_tail (change z)

  mutual
    tree_follows : (t : Tree Ident) → Follow tree_as t
    tree_follows (name i o) e = let a = ident_follows i (ap (name_or (ident r i)) e) in let b = place_follows o (ap place_in e) in λ j. name (a j) (b j)
    tree_follows (atom a o) e = ap (atom a) (place_follows o (ap place_in e))
    tree_follows (list ts end o) e =
        let a = trees_follow ts (ap parts_in e) in let b = tail_follows end (ap end_in e) in let c = place_follows o (ap place_in e) in λ j. list (a j) (b j) (c j)
    tree_follows (vector ts o) e = let a = trees_follow ts (ap parts_in e) in let b = place_follows o (ap place_in e) in λ j. vector (a j) (b j)

    trees_follow : (ts : Trees Ident) → Follow trees_as ts
    trees_follow no_trees e = refl
    trees_follow (tree t ts) e = let a = tree_follows t (ap (first_or (tree_as r t)) e) in let b = trees_follow ts (ap rest_in e) in λ j. tree (a j) (b j)

    tail_follows : (end : Tail Ident) → Follow tail_as end
    tail_follows proper e = refl
    tail_follows (dotted t) e = ap dotted (tree_follows t (ap (dotted_or (tree_as r t)) e))

  -- ---- rules

  abbrev named_as : Renumbering → Named Ident → Named Ident
  named_as z = move_named (change z)

  named_follows : (n : Named Ident) → Follow named_as n
  named_follows n e = let a = ident_follows n.name (ap (λ (x : Named Ident). x.name) e) in let b = place_follows n.occ (ap (λ (x : Named Ident). x.occ) e) in λ j. record { name = a j; occ = b j }

  abbrev rule_as : Renumbering → Rule Ident → Rule Ident
  rule_as z = move_rule (change z)

  rule_follows : (x : Rule Ident) → Follow rule_as x
  rule_follows x e =
      let a = trees_follow x.parts (ap (λ (y : Rule Ident). y.parts) e) in let b = tail_follows x.tail (ap (λ (y : Rule Ident). y.tail) e) in let c = tree_follows x.template (ap (λ (y : Rule Ident). y.template) e) in
      λ j. record { parts = a j; tail = b j; template = c j }

  abbrev rules_as : Renumbering → Rules Ident → Rules Ident
  rules_as z = move_rules (change z)

  rules_follow : (x : Rules Ident) → Follow rules_as x
  rules_follow x e =
      let a = some_follows (ident itself) (ident p) (ident r) (ident q) ident_follows x.ellipsis (ap (λ (y : Rules Ident). y.ellipsis) e) in
      let b = all_follow (named_as itself) (named_as p) (named_as r) (named_as q) named_follows x.literals (ap (λ (y : Rules Ident). y.literals) e) in
      let c = all_follow (rule_as itself) (rule_as p) (rule_as r) (rule_as q) rule_follows x.rules (ap (λ (y : Rules Ident). y.rules) e) in
      λ j. record { ellipsis = a j; literals = b j; rules = c j }

  -- ---- frames

  frame_follows : (x : Frame) → Follow new_frame x
  frame_follows (Bind i v) e = let a = ident_follows i (ap (bound_or (ident r i)) e) in let b = number_follows v (ap frame_number e) in λ j. Bind (a j) (b j)
  frame_follows (Enter k c) e = ap (λ x. Enter x c) (number_follows k (ap frame_number e))

  frames_follow : (fs : Frames) → Follow new_frames fs
  frames_follow fs e = all_follow (new_frame itself) (new_frame p) (new_frame r) (new_frame q) frame_follows fs e

  framed_follows : (l : FramedIdent) → Follow new_framed l
  framed_follows l e = let a = frames_follow l.frames (ap (λ (x : FramedIdent). x.frames) e) in let b = ident_follows l.ident (ap (λ (x : FramedIdent). x.ident) e) in λ j. record { frames = a j; ident = b j }

  note_follows : (n : Note FramedIdent) → Follow new_note n
  note_follows (LookedUp l h k) e = ap (λ x. LookedUp x h k) (framed_follows l (ap (one_of (new_framed r l)) e))
  note_follows (Compared l m h) e =
      let a = framed_follows l (ap (one_of (new_framed r l)) e) in let b = framed_follows m (ap (other_of (new_framed r m)) e) in λ j. Compared (a j) (b j) h

  macro_follows : (m : Transformer Frames Ident) → Follow new_macro m
  macro_follows m e =
      let a = frames_follow m.env (ap (λ (x : Transformer Frames Ident). x.env) e) in let b = rules_follow m.rules (ap (λ (x : Transformer Frames Ident). x.rules) e) in λ j. record { env = a j; rules = b j }

  -- ---- what a form has made and found

  kept_follows : (k : ScopedMacro) → Follow new_kept k
  kept_follows k e =
      let a = meaning_follows k.meaning (ap (λ (x : ScopedMacro). x.meaning) e) in let b = frames_follow k.frames (ap (λ (x : ScopedMacro). x.frames) e) in let c = rules_follow k.rules (ap (λ (x : ScopedMacro). x.rules) e) in
      λ j. record { meaning = a j; frames = b j; rules = c j }

  use_follows : (u : UsePlace) → Follow new_use u
  use_follows u e = let a = number_follows u.use_number (ap (λ (x : UsePlace). x.use_number) e) in let b = frames_follow u.frames (ap (λ (x : UsePlace). x.frames) e) in λ j. record { use_number = a j; frames = b j }

  definition_follows : (d : BodyDefinition) → Follow new_definition d
  definition_follows d e =
      let a = number_follows d.body (ap (λ (x : BodyDefinition). x.body) e) in let b = ident_follows d.ident (ap (λ (x : BodyDefinition). x.ident) e) in let c = number_follows d.binder (ap (λ (x : BodyDefinition). x.binder) e) in
      λ j. record { body = a j; ident = b j; binder = c j }

  defined_follows : (d : Defined) → Follow defined_as d
  defined_follows d e =
      let u : r.unit d.unit ≡ p.unit (r.unit d.unit) = ap (λ (x : Defined). x.unit) e in
      let f : r.form d.unit d.form ≡ p.form (r.unit d.unit) (r.form d.unit d.form) = ap (λ (x : Defined). x.form) e in
      let a = units d.unit u in let b = forms d.unit d.form u f in let c = ident_follows d.ident (ap (λ (x : Defined). x.ident) e) in let o = place_follows d.occ (ap (λ (x : Defined). x.occ) e) in
      λ j. record { unit = a j; form = b j; ident = c j; keyword = d.keyword; occ = o j }

  target_follows : (t : Target) → Follow target t
  target_follows t e =
      let a = meaning_follows t.meaning (ap (λ (x : Target). x.meaning) e) in let b = ident_follows t.ident (ap (λ (x : Target). x.ident) e) in let c = place_follows t.occ (ap (λ (x : Target). x.occ) e) in
      λ j. record { meaning = a j; ident = b j; occ = c j }

  met_follows : (u : MacroUse) → Follow macro_use_as u
  met_follows u e =
      let a = target_follows u.keyword (ap (λ (x : MacroUse). x.keyword) e) in
      let b = all_follow (target itself) (target p) (target r) (target q) target_follows u.literals (ap (λ (x : MacroUse). x.literals) e) in λ j. record { keyword = a j; literals = b j }

  moment_follows : (n : Moment) → Follow new_moment n
  moment_follows n e =
      let a = all_follow (target itself) (target p) (target r) (target q) target_follows n.keywords (ap (λ (x : Moment). x.keywords) e) in
      let b = all_follow (macro_use_as itself) (macro_use_as p) (macro_use_as r) (macro_use_as q) met_follows n.met (ap (λ (x : Moment). x.met) e) in
      let c = all_follow (defined_as itself) (defined_as p) (defined_as r) (defined_as q) defined_follows n.table (ap (λ (x : Moment). x.table) e) in
      let d = all_follow (new_kept itself) (new_kept p) (new_kept r) (new_kept q) kept_follows n.macros (ap (λ (x : Moment). x.macros) e) in
      let f = all_follow (new_use itself) (new_use p) (new_use r) (new_use q) use_follows n.places (ap (λ (x : Moment). x.places) e) in
      let g = all_follow (new_definition itself) (new_definition p) (new_definition r) (new_definition q) definition_follows n.definitions (ap (λ (x : Moment). x.definitions) e) in
      λ j. record { locals = n.locals; uses = n.uses; nodes = n.nodes; bodies = n.bodies; keywords = a j; met = b j; table = c j; macros = d j; places = f j; definitions = g j }

  -- ---- questions and answers

  abbrev looked_or : Ident → Question → Ident
  looked_or d (LooksUp i) = i
  looked_or d (UsesRules m) = d
  looked_or d (Compares l i) = i
  looked_or d (IsAssigned i) = i
  looked_or d (Requires l) = d
  looked_or d (Defines fs x rs ns) = x.name

  abbrev literal_or : Ident → Question → Ident
  literal_or d (LooksUp i) = d
  literal_or d (UsesRules m) = d
  literal_or d (Compares l i) = l
  literal_or d (IsAssigned i) = d
  literal_or d (Requires l) = d
  literal_or d (Defines fs x rs ns) = d

  abbrev used_or : Meaning → Question → Meaning
  used_or d (LooksUp i) = d
  used_or d (UsesRules m) = m
  used_or d (Compares l i) = d
  used_or d (IsAssigned i) = d
  used_or d (Requires l) = d
  used_or d (Defines fs x rs ns) = d

  abbrev frames_or : Frames → Question → Frames
  frames_or d (LooksUp i) = d
  frames_or d (UsesRules m) = d
  frames_or d (Compares l i) = d
  frames_or d (IsAssigned i) = d
  frames_or d (Requires l) = d
  frames_or d (Defines fs x rs ns) = fs

  abbrev defined_or : Named Ident → Question → Named Ident
  defined_or d (LooksUp i) = d
  defined_or d (UsesRules m) = d
  defined_or d (Compares l i) = d
  defined_or d (IsAssigned i) = d
  defined_or d (Requires l) = d
  defined_or d (Defines fs x rs ns) = x

  abbrev rules_in : Question → Option (Rules Ident)
  rules_in (LooksUp i) = None
  rules_in (UsesRules m) = None
  rules_in (Compares l i) = None
  rules_in (IsAssigned i) = None
  rules_in (Requires l) = None
  rules_in (Defines fs x rs ns) = rs

  abbrev notes_in : Question → List (Note FramedIdent)
  notes_in (LooksUp i) = []
  notes_in (UsesRules m) = []
  notes_in (Compares l i) = []
  notes_in (IsAssigned i) = []
  notes_in (Requires l) = []
  notes_in (Defines fs x rs ns) = ns

  question_follows : (x : Question) → Follow new_question x
  question_follows (LooksUp i) e = ap LooksUp (ident_follows i (ap (looked_or (ident r i)) e))
  question_follows (UsesRules m) e = ap UsesRules (meaning_follows m (ap (used_or (meaning r m)) e))
  question_follows (Compares l i) e = let a = ident_follows l (ap (literal_or (ident r l)) e) in let b = ident_follows i (ap (looked_or (ident r i)) e) in λ j. Compares (a j) (b j)
  question_follows (IsAssigned i) e = ap IsAssigned (ident_follows i (ap (looked_or (ident r i)) e))
  question_follows (Requires l) e = refl
  question_follows (Defines fs x rs ns) e =
      let a = frames_follow fs (ap (frames_or (new_frames r fs)) e) in let b = named_follows x (ap (defined_or (named_as r x)) e) in
      let c = some_follows (rules_as itself) (rules_as p) (rules_as r) (rules_as q) rules_follow rs (ap rules_in e) in
      let d = all_follow (new_note itself) (new_note p) (new_note r) (new_note q) note_follows ns (ap notes_in e) in
      λ j. Defines (a j) (b j) (c j) (d j)

  abbrev answer_meaning : Meaning → Answer → Meaning
  answer_meaning d (Means m k) = m
  answer_meaning d (Expands m) = d
  answer_meaning d (Says b) = d
  answer_meaning d (Ends o) = d

  abbrev answer_macro : Answer → Option (Transformer Frames Ident)
  answer_macro (Means m k) = None
  answer_macro (Expands m) = m
  answer_macro (Says b) = None
  answer_macro (Ends o) = None

  pub answer_follows : (a : Answer) → Follow new_answer a
  answer_follows (Means m k) e = ap (λ x. Means x k) (meaning_follows m (ap (answer_meaning (meaning r m)) e))
  answer_follows (Expands m) e = ap Expands (some_follows (new_macro itself) (new_macro p) (new_macro r) (new_macro q) macro_follows m (ap answer_macro e))
  answer_follows (Says b) e = refl
  answer_follows (Ends o) e = refl

  pub asked_follows : (x : Moment × Question) → Follow new_asked x
  asked_follows x e = let a = moment_follows x.0 (ap (λ (y : Moment × Question). y.0) e) in let b = question_follows x.1 (ap (λ (y : Moment × Question). y.1) e) in λ j. (a j, b j)

  pub all_asked_follow : (xs : List (Moment × Question)) → map (new_asked itself) (map (new_asked r) xs) ≡ map (new_asked p) (map (new_asked r) xs) → map (new_asked r) xs ≡ map (new_asked q) xs
  all_asked_follow xs e = all_follow (new_asked itself) (new_asked p) (new_asked r) (new_asked q) asked_follows xs e
