-- A unit that is broken as a whole has blank forms, and is told by what breaks it.
use Rattle.std.proofs.Common.{◌≡◌, ℕ, Option, length, refl, sym, ap, ◌∙◌, subst}
use Rattle.std.specs.Prelude.{unwrap_or}
use Rattle.std.proofs.lemmas.Option.{same_Some, slice_get_read}
use Rattle.scheme_model.specs.Program.{result_at}
use Rattle.program_leaves.specs.Formed.{IsFormed}
use Rattle.read_documents.specs.Broken.{told as told_as}
use Rattle.read_documents.specs.declared.heads.WholeFault.{WholeFault}
use Rattle.read_documents.specs.declared.heads.WholeFault.TheVariants as fault
use Rattle.read_documents.specs.declared.heads.Head.{Head}
use Rattle.unit_results.proofs.collecting.broken_at.Goals as goal

pub returns-clause-formed : goal.returns-clause-formed
returns-clause-formed c = λ work. subst (λ (n : ℕ). IsFormed work n c.in_ok-broken.field-0.forms) c.in_ok-unit.ensures (c.in_ok-broken.ensures.formed work)

pub returns-clause-nothing : goal.returns-clause-nothing
returns-clause-nothing c = record {
  blank = c.in_ok-broken.ensures.forms;
  as_many = c.in_ok-broken.ensures.count;
  names = c.in_ok-broken.ensures.names;
  seconds = c.in_ok-broken.ensures.seconds;
  entries = c.in_ok-broken.ensures.entries;
  exports = c.in_ok-broken.ensures.exports;
}

pub returns-clause-told : goal.returns-clause-told
returns-clause-told c = λ rs p h r f places at head breaks broken.
    let hs = c.args.places.heads.now in
    let there = c.index-places-place.result in
    let same : there ≡ h = same_Some there h (sym (slice_get_read hs (length hs) c.args.place there refl c.requires.place c.index-places-place.is) ∙ head) in
    let fault : c.unwrap_or-fault.result ≡ told_as f = c.unwrap_or-fault.ensures ∙ (ap (λ (x : Head). unwrap_or x.fault fault.TooLarge) (sym c.index-places-place.is) ∙ ap (λ (x : Head). unwrap_or x.fault fault.TooLarge) same ∙ ap (λ (o : Option WholeFault). unwrap_or o fault.TooLarge) breaks) in
    c.in_ok-broken.ensures.finds rs p r f places (ap (result_at p.units) c.in_ok-unit.ensures ∙ at) broken fault
