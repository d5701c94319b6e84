use Rattle.std.proofs.Common.{◌≡◌, [], ◌∷◌, map, refl, sym, ap, subst, rules, arith}
use Rattle.std.specs.Prelude.{Some, if◌then◌else◌}
use Rattle.scheme_model.specs.Trees.{Atom, atom, Numeral, Quoted, Bytes, Character, Boolean}
use Rattle.rename_model.specs.Walks as walk
use Rattle.rename_model.specs.Walks.{AtRule, ShowsNothing, Fixed, in_rules, atom_points}
use Rattle.syntax_tree.specs.Standing.{leaf_tree}
use Rattle.syntax_tree.specs.declared.trees.nodes.Leaf.{Leaf}
use Rattle.program_leaves.proofs.AddLaws.{adds_both, adds_same}
use Rattle.alpha_equal.specs.Slots.{IsSlot}
use Rattle.alpha_equal.proofs.AtomLaws.{atom_told, text_told, no_name}
use Rattle.program_differences.proofs.rules.add_atom.Goals as goal

pub returns-in-Name : goal.returns-in-Name
returns-in-Name c = λ names unit form a is. absurd (no_name _ a c.args.occ (subst (λ (x : Leaf). leaf_tree names x c.args.occ ≡ Some (atom a c.args.occ)) c.in-Name.is is))

pub returns-in_ok-add_seen-in-Numeral : goal.returns-in_ok-add_seen-in-Numeral
returns-in_ok-add_seen-in-Numeral c = λ names unit form a is.
    let o = c.args.occ in
    let told = text_told names c.in-Numeral.text Numeral a o (subst (λ (x : Leaf). leaf_tree names x o ≡ Some (atom a o)) c.in-Numeral.is is) in
    adds_same (IsSlot names unit form) c.args.slots.now.items c.add_seen.new.slots.items _ (map Fixed (atom_points AtRule o a)) (ap (λ (x : Atom). map Fixed (atom_points AtRule o x)) (sym told.2))
    (c.in_ok-add_seen-in-Numeral.ensures names unit form (walk.OfName walk.IsNumeral told.0) (told.0, told.1, refl))

pub returns-in_ok-add_seen-in-Quoted : goal.returns-in_ok-add_seen-in-Quoted
returns-in_ok-add_seen-in-Quoted c = λ names unit form a is.
    let o = c.args.occ in
    let told = text_told names c.in-Quoted.text Quoted a o (subst (λ (x : Leaf). leaf_tree names x o ≡ Some (atom a o)) c.in-Quoted.is is) in
    adds_same (IsSlot names unit form) c.args.slots.now.items c.add_seen-in-Quoted.new.slots.items _ (map Fixed (atom_points AtRule o a)) (ap (λ (x : Atom). map Fixed (atom_points AtRule o x)) (sym told.2))
    (c.in_ok-add_seen-in-Quoted.ensures names unit form (walk.OfName walk.IsString told.0) (told.0, told.1, refl))

pub returns-in_ok-add_seen-in-Bytes : goal.returns-in_ok-add_seen-in-Bytes
returns-in_ok-add_seen-in-Bytes c = λ names unit form a is.
    let o = c.args.occ in
    let told = text_told names c.in-Bytes.text Bytes a o (subst (λ (x : Leaf). leaf_tree names x o ≡ Some (atom a o)) c.in-Bytes.is is) in
    adds_same (IsSlot names unit form) c.args.slots.now.items c.add_seen-in-Bytes.new.slots.items _ (map Fixed (atom_points AtRule o a)) (ap (λ (x : Atom). map Fixed (atom_points AtRule o x)) (sym told.2))
    (c.in_ok-add_seen-in-Bytes.ensures names unit form (walk.OfName walk.IsBytes told.0) (told.0, told.1, refl))

pub returns-in_ok-add_seen-in-Bool : goal.returns-in_ok-add_seen-in-Bool
returns-in_ok-add_seen-in-Bool c = λ names unit form a is.
    let o = c.args.occ in
    let told = atom_told (Boolean c.in-Bool.holds) a o (subst (λ (x : Leaf). leaf_tree names x o ≡ Some (atom a o)) c.in-Bool.is is) in
    adds_same (IsSlot names unit form) c.args.slots.now.items c.add_seen-in-Bool.new.slots.items _ (map Fixed (atom_points AtRule o a)) (ap (λ (x : Atom). map Fixed (atom_points AtRule o x)) (sym told))
    (c.in_ok-add_seen-in-Bool.ensures names unit form (walk.OfNode (if c.in-Bool.holds then walk.IsTrue else walk.IsFalse)) (ap walk.OfNode (sym c.truth_node.ensures)))

pub returns-in_ok-add_seen-in-Char-2 : goal.returns-in_ok-add_seen-in-Char-2
returns-in_ok-add_seen-in-Char-2 c = λ names unit form a is.
    let P = IsSlot names unit form in
    let o = c.args.occ in
    let told = atom_told (Character c.in-Char.c) a o (subst (λ (x : Leaf). leaf_tree names x o ≡ Some (atom a o)) c.in-Char.is is) in
    let code : c.in-Char.c ≡ c.from-in-Char.result = first_of (search rules, omega arith) in
    let old = c.args.slots.now.items in
    let mid = c.add_seen-in-Char.new.slots.items in
    let new = c.add_seen-in-Char-2.new.slots.items in
    let one = in_rules (walk.OfNode walk.IsCharacter) o ShowsNothing in
    let two = in_rules (walk.OfNumber c.in-Char.c) o ShowsNothing in
    adds_same P old new (one ∷ two ∷ []) (map Fixed (atom_points AtRule o a)) (ap (λ (x : Atom). map Fixed (atom_points AtRule o x)) (sym told))
    (adds_both P old mid new (one ∷ []) (two ∷ []) (c.in_ok-add_seen-in-Char.ensures names unit form (walk.OfNode walk.IsCharacter) refl) (c.in_ok-add_seen-in-Char-2.ensures names unit form (walk.OfNumber c.in-Char.c) (ap walk.OfNumber code)))
