use Rattle.std.proofs.Common.{List, [], refl, sym, ap, ◌∙◌, subst}
use Rattle.scheme_model.specs.Spelling.{prefixes_of}
use Rattle.arrow_index.specs.Classes.{AreParts}
use Rattle.arrow_index.specs.declared.classes.ClassPart.{ClassPart}
use Rattle.program_answers.specs.AskedOf.{own_prefixes}
use Rattle.program_answers.specs.Classed.{IsLongest, head_of}
use Rattle.program_answers.specs.ToldAnswers.{facts_in}
use Rattle.program_answers.proofs.AskedLaws.{names_law}
use Rattle.program_answers.proofs.LongestLaws.{longest_same, own_law}
use Rattle.program_answers.proofs.classes.class_of.Goals as goal

pub returns : goal.returns
returns c = λ rs source joined.
    let links = (facts_in rs).links in
    let o = c.args.occ in
    let parts = c.in_ok-parts.parts in
    let s = c.longest.result.now in
    let are = c.in_ok-parts.ensures.exact rs source in
    let mine = subst (λ (ps : List ClassPart). IsLongest (own_prefixes ps o) s) c.as_slice.ensures c.longest.ensures in
    record {
      at = refl;
      joined = joined;
      parts = subst (λ (ps : List ClassPart). AreParts ps links o) (sym c.in_ok-placed.ensures.same) are;
      bars = c.in_ok-placed.ensures.bars rs source;
      prefix = subst (IsLongest (prefixes_of links o [])) (sym c.in_ok-prefix.ensures) (longest_same (own_prefixes parts o) (prefixes_of links o []) s (own_law links o parts are) mine);
      standard = c.in_ok-standard.ensures ∙ ap head_of (c.as_slice-3.ensures ∙ names_law (facts_in rs) o c.in_ok-names.names ((rw c.as_slice-2.ensures at c.in_ok-names.ensures) rs o source are));
    }
