use Rattle.std.proofs.Common.{◌≡◌, ℕ, List, [], ◌∷◌, slice_get, refl, ap, ◌∙◌}
use Rattle.std.specs.Option.{option_map}
use Rattle.scheme_model.specs.Ident.{Ident as Identifier, Written}
use Rattle.scheme_model.specs.Order.{Transformer}
use Rattle.scheme_model.specs.Program.{prelude_unit, is_standard}
use Rattle.scheme_model.specs.ScopedExpansion.{Frames}
use Rattle.syntax_tree.specs.Names.{Names}
use Rattle.syntax_tree.specs.Macros.{IsIdent}
use Rattle.syntax_tree.specs.Meant.{IsSymbol}
use Rattle.syntax_tree.specs.declared.meaning.Meaning.TheVariants as code
use Rattle.syntax_tree.specs.declared.trees.Work.{Work}
use Rattle.unit_scopes.specs.declared.macros.Macro.{Macro}
use Rattle.unit_scopes.proofs.GrowthStands.{macro_on}
use Rattle.unit_scopes.proofs.ImportLaws.{same_trees}
use Rattle.unit_scopes.proofs.PreludeLaws.{undefined_there, meant_there, standard_there, free_there, local_there, global_there, standard_added, own_added, on_ok}
use Rattle.unit_scopes.proofs.PreludeEditions.{standard_tells, own_tells}
use Rattle.unit_scopes.proofs.scope.UnitScope.add_prelude.Goals as goal

-- the work once the name has its number
abbrev numbered : Work → Names → Work
numbered w names = record { trees = w.trees; symbols = names }

-- which is that of the name in the prelude's unit
name_is : (old new : Names) (ident name : ℕ) (x : List ℕ) → slice_get new.idents ident ≡ option_map (Written prelude_unit) (slice_get old.symbols name) → IsSymbol old name x → IsIdent new ident (Written prelude_unit x)
name_is old new ident name x at spelt = at ∙ ap (option_map (Written prelude_unit)) spelt

pub define_own-requires-clause-new : goal.define_own-requires-clause-new
define_own-requires-clause-new c =
    let old = c.args.work.now in let new : Work = numbered old c.ident.new.self in let can = c.requires.can in let names = c.in_ok-ident.ensures.keeps in
    undefined_there old new (same_trees old new refl names) names c.told_apart.ensures.idents c.told_apart.ensures.symbols c.args.self.now can.state can.is can.text c.in_ok-ident.ident
    (name_is old.symbols new.symbols c.in_ok-ident.ident c.args.name can.text c.in_ok-ident.ensures.ok can.spelt) can.undefined can.stands.rests

pub define_own-requires-in-Global-clause-new : goal.define_own-requires-in-Global-clause-new
define_own-requires-in-Global-clause-new c =
    let old = c.args.work.now in let new : Work = numbered old c.ident.new.self in let can = c.requires.can in let names = c.in_ok-ident.ensures.keeps in
    undefined_there old new (same_trees old new refl names) names c.told_apart.ensures.idents c.told_apart.ensures.symbols c.args.self.now can.state can.is can.text c.in_ok-ident.ident
    (name_is old.symbols new.symbols c.in_ok-ident.ident c.args.name can.text c.in_ok-ident.ensures.ok can.spelt) can.undefined can.stands.rests

pub define_own-requires-in-Free-clause-new : goal.define_own-requires-in-Free-clause-new
define_own-requires-in-Free-clause-new c =
    let old = c.args.work.now in let new : Work = numbered old c.ident.new.self in let can = c.requires.can in let names = c.in_ok-ident.ensures.keeps in
    undefined_there old new (same_trees old new refl names) names c.told_apart.ensures.idents c.told_apart.ensures.symbols c.args.self.now can.state can.is can.text c.in_ok-ident.ident
    (name_is old.symbols new.symbols c.in_ok-ident.ident c.args.name can.text c.in_ok-ident.ensures.ok can.spelt) can.undefined can.stands.rests

pub returns-in-Standard-clause-added : goal.returns-in-Standard-clause-added
returns-in-Standard-clause-added c = λ s x r stands is spelt none rules checked unplaced.
    let old = c.args.work.now in let new : Work = numbered old c.ident.new.self in let names = c.in_ok-ident.ensures.keeps in let u = c.args.self.now in
    let trees = same_trees old new refl names in let apart = c.told_apart.ensures.idents in let told = c.told_apart.ensures.symbols in let ident = c.in_ok-ident.ident in
    let k : Macro = record { scope = u.root; rules = c.args.rules; leaves = c.in_ok-leaves.leaves; edition = 0 } in
    let t : Transformer Frames Identifier = record { env = []; rules = r } in
    let at = name_is old.symbols new.symbols ident c.args.name x c.in_ok-ident.ensures.ok spelt in
    let macro = macro_on old new trees names apart told ([] ∷ []) k t (record { scope = stands.rests.root; checked = (r, rules, checked); rules = rules; leaves = c.in_ok-leaves.ensures r rules unplaced }) in
    let n = c.in-Standard.symbol in
    let meant = standard_there new.symbols prelude_unit 0 x (is_standard x) n (meant_there old new trees names apart told u s is x ident at none stands.rests (code.Standard n) c.in-Standard.ensures.meaning) in
    on_ok c.keep.result (λ keeps. standard_added old new trees names apart told u s is x ident at none stands.rests r k macro stands.notes n c.keep.new.self meant.1 meant.0 keeps) c.keep.ensures.kept

pub returns-in-Local-clause-added : goal.returns-in-Local-clause-added
returns-in-Local-clause-added c = λ s x r stands is spelt none rules checked unplaced.
    let old = c.args.work.now in let new : Work = numbered old c.ident.new.self in let names = c.in_ok-ident.ensures.keeps in let u = c.args.self.now in
    let trees = same_trees old new refl names in let apart = c.told_apart.ensures.idents in let told = c.told_apart.ensures.symbols in let ident = c.in_ok-ident.ident in
    let at = name_is old.symbols new.symbols ident c.args.name x c.in_ok-ident.ensures.ok spelt in
    let n = c.in-Local.field-0 in
    local_there new.symbols prelude_unit 0 x (is_standard x) n (meant_there old new trees names apart told u s is x ident at none stands.rests (code.Local n) c.in-Local.ensures.meaning)

pub returns-in-Global-clause-added : goal.returns-in-Global-clause-added
returns-in-Global-clause-added c = λ s x r stands is spelt none rules checked unplaced.
    let old = c.args.work.now in let new : Work = numbered old c.ident.new.self in let names = c.in_ok-ident.ensures.keeps in let u = c.args.self.now in
    let trees = same_trees old new refl names in let apart = c.told_apart.ensures.idents in let told = c.told_apart.ensures.symbols in let ident = c.in_ok-ident.ident in
    let at = name_is old.symbols new.symbols ident c.args.name x c.in_ok-ident.ensures.ok spelt in
    let v = c.in-Global.unit in let n = c.in-Global.ident in
    global_there new.symbols prelude_unit 0 x (is_standard x) v n (meant_there old new trees names apart told u s is x ident at none stands.rests (code.Global v n) c.in-Global.ensures.meaning)

pub returns-in-Free-clause-added : goal.returns-in-Free-clause-added
returns-in-Free-clause-added c = λ s x r stands is spelt none rules checked unplaced.
    let old = c.args.work.now in let new : Work = numbered old c.ident.new.self in let names = c.in_ok-ident.ensures.keeps in let u = c.args.self.now in
    let trees = same_trees old new refl names in let apart = c.told_apart.ensures.idents in let told = c.told_apart.ensures.symbols in let ident = c.in_ok-ident.ident in
    let k : Macro = record { scope = u.root; rules = c.args.rules; leaves = c.in_ok-leaves.leaves; edition = 0 } in
    let t : Transformer Frames Identifier = record { env = []; rules = r } in
    let at = name_is old.symbols new.symbols ident c.args.name x c.in_ok-ident.ensures.ok spelt in
    let macro = macro_on old new trees names apart told ([] ∷ []) k t (record { scope = stands.rests.root; checked = (r, rules, checked); rules = rules; leaves = c.in_ok-leaves.ensures r rules unplaced }) in
    let n = c.in-Free.field-0 in
    let other = free_there new.symbols prelude_unit 0 x (is_standard x) n (meant_there old new trees names apart told u s is x ident at none stands.rests (code.Free n) c.in-Free.ensures.meaning) in
    on_ok c.define_own-in-Free.result (λ h. own_added old new trees names apart told u s is x ident at none stands.rests r k macro stands.notes c.define_own-in-Free.new.self c.sound.ensures other h) c.define_own-in-Free.ensures.added

pub returns-in-Standard-clause-editions : goal.returns-in-Standard-clause-editions
returns-in-Standard-clause-editions c = λ s x r e stands is spelt none tells edition.
    let old = c.args.work.now in let new : Work = numbered old c.ident.new.self in let names = c.in_ok-ident.ensures.keeps in let u = c.args.self.now in
    let trees = same_trees old new refl names in let apart = c.told_apart.ensures.idents in let told = c.told_apart.ensures.symbols in let ident = c.in_ok-ident.ident in
    let k : Macro = record { scope = u.root; rules = c.args.rules; leaves = c.in_ok-leaves.leaves; edition = 0 } in
    let at = name_is old.symbols new.symbols ident c.args.name x c.in_ok-ident.ensures.ok spelt in
    let n = c.in-Standard.symbol in
    let meant = standard_there new.symbols prelude_unit 0 x (is_standard x) n (meant_there old new trees names apart told u s is x ident at none stands.rests (code.Standard n) c.in-Standard.ensures.meaning) in
    on_ok c.keep.result (λ keeps. standard_tells old new trees names apart told u s x e stands.rests tells r n c.keep.new.self k meant.1 meant.0 keeps edition) c.keep.ensures.kept

pub returns-in-Local-clause-editions : goal.returns-in-Local-clause-editions
returns-in-Local-clause-editions c = λ s x r e stands is spelt none tells edition.
    let old = c.args.work.now in let new : Work = numbered old c.ident.new.self in let names = c.in_ok-ident.ensures.keeps in let u = c.args.self.now in
    let trees = same_trees old new refl names in let apart = c.told_apart.ensures.idents in let told = c.told_apart.ensures.symbols in let ident = c.in_ok-ident.ident in
    let at = name_is old.symbols new.symbols ident c.args.name x c.in_ok-ident.ensures.ok spelt in
    let n = c.in-Local.field-0 in
    local_there new.symbols prelude_unit 0 x (is_standard x) n (meant_there old new trees names apart told u s is x ident at none stands.rests (code.Local n) c.in-Local.ensures.meaning)

pub returns-in-Global-clause-editions : goal.returns-in-Global-clause-editions
returns-in-Global-clause-editions c = λ s x r e stands is spelt none tells edition.
    let old = c.args.work.now in let new : Work = numbered old c.ident.new.self in let names = c.in_ok-ident.ensures.keeps in let u = c.args.self.now in
    let trees = same_trees old new refl names in let apart = c.told_apart.ensures.idents in let told = c.told_apart.ensures.symbols in let ident = c.in_ok-ident.ident in
    let at = name_is old.symbols new.symbols ident c.args.name x c.in_ok-ident.ensures.ok spelt in
    let v = c.in-Global.unit in let n = c.in-Global.ident in
    global_there new.symbols prelude_unit 0 x (is_standard x) v n (meant_there old new trees names apart told u s is x ident at none stands.rests (code.Global v n) c.in-Global.ensures.meaning)

pub returns-in-Free-clause-editions : goal.returns-in-Free-clause-editions
returns-in-Free-clause-editions c = λ s x r e stands is spelt none tells edition.
    let old = c.args.work.now in let new : Work = numbered old c.ident.new.self in let names = c.in_ok-ident.ensures.keeps in let u = c.args.self.now in
    let trees = same_trees old new refl names in let apart = c.told_apart.ensures.idents in let told = c.told_apart.ensures.symbols in let ident = c.in_ok-ident.ident in
    let k : Macro = record { scope = u.root; rules = c.args.rules; leaves = c.in_ok-leaves.leaves; edition = 0 } in
    let at = name_is old.symbols new.symbols ident c.args.name x c.in_ok-ident.ensures.ok spelt in
    let n = c.in-Free.field-0 in
    let other = free_there new.symbols prelude_unit 0 x (is_standard x) n (meant_there old new trees names apart told u s is x ident at none stands.rests (code.Free n) c.in-Free.ensures.meaning) in
    on_ok c.define_own-in-Free.result (λ h. own_tells old new trees names apart told u s x e stands.rests tells r is ident c.define_own-in-Free.new.self k at other h edition) c.define_own-in-Free.ensures.added
