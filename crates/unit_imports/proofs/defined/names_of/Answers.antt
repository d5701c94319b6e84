use Rattle.std.proofs.Common.{◌≡◌, List, ◌++◌, length, map, reverse, sym, ap, ◌∙◌, subst}
use Rattle.std.proofs.lemmas.List.{map_push}
use Rattle.std.proofs.lemmas.Iterator.Adapters.{YieldsList-from_rev_slice}
use Rattle.std.proofs.lemmas.Iterator.Consumers.{YieldsList-turn, YieldsList-end}
use Rattle.syntax_tree.specs.declared.units.Entry.{Entry}
use Rattle.unit_imports.specs.Defined.{named_all}
use Rattle.unit_imports.specs.EntriesMeant.{HaveMeaning}
use Rattle.unit_imports.proofs.DefinedLaws.{known_reversed}
use Rattle.unit_imports.proofs.GivenLaws.{item_at}
use Rattle.unit_imports.proofs.MeaningLaws.{mean_both}
use Rattle.unit_imports.proofs.NameLaws.{names_found, named_more}
use Rattle.unit_imports.proofs.defined.names_of.Goals as goal

pub add_name-requires : goal.add_name-requires
add_name-requires c =
    let xs = c.args.defined.now in
    let n = length c.loop-binder.yielded in
    let t = YieldsList-turn (YieldsList-from_rev_slice xs cc) c.loop-binder.yielded _ c.loop-binder.yielded_by _ _ c.in-Some.field-0 c.in-Some.is c.next.ensures.steps in
    known_reversed c.args.symbols.now xs c.requires.known n c.in-Some.field-0.now (item_at (reverse xs) n c.in-Some.field-0.now t.0 t.1)

pub loop-binder-preserved : goal.loop-binder-preserved
loop-binder-preserved c = record {
  means = c.in_ok-add_name.ensures.means c.loop-binder.invariant.means;
  exact =
      named_more c.args.symbols.now c.args.unit (map (λ b. b.now) c.loop-binder.yielded) c.in-Some.field-0.now c.loop-binder.names.items c.add_name.new.names.items c.loop-binder.invariant.exact c.in_ok-add_name.ensures.exact
      ∙ ap (named_all c.args.symbols.now c.args.unit) (sym (map_push (λ b. b.now) c.loop-binder.yielded c.in-Some.field-0));
}

pub returns : goal.returns
returns c =
    let names = c.args.symbols.now in
    let unit = c.args.unit in
    let xs = c.args.defined.now in
    let old = c.loop-binder.names.items in
    let js = c.args.joined.now.entries.items in
    let e = YieldsList-end (YieldsList-from_rev_slice xs cc) c.loop-binder.yielded _ c.loop-binder.yielded_by _ _ c.in-None.is c.next.ensures.steps in
    let added : c.add_entries.new.names.items ≡ old ++ js = c.in_ok-add_entries.ensures ∙ ap (λ (es : List Entry). old ++ es) (c.in_ok-copy_of_entries.ensures ∙ c.as_slice.ensures.value) in
    let exact : c.add_entries.new.names.items ≡ named_all names unit (reverse xs) ++ js =
    added ∙ ap (λ (es : List Entry). es ++ js) (c.loop-binder.invariant.exact ∙ ap (named_all names unit) e.0) in
    record {
      means = subst (HaveMeaning names) (sym added) (mean_both names old js c.loop-binder.invariant.means c.requires.imported);
      exact = exact;
      finds = λ table h es are. names_found names unit (reverse xs) table h js c.add_entries.new.names.items es are exact;
    }
