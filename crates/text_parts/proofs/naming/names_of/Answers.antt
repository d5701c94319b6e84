use Rattle.std.proofs.Common.{◌<◌, List, length, false, sym, ap, ◌∙◌, subst, arith}
use Rattle.std.specs.Prelude.{Bool, ◌||◌}
use Rattle.std.specs.List.{filter_map}
use Rattle.std.proofs.lemmas.List.{get_or-replicate, length-replicate}
use Rattle.scheme_model.specs.Includes.{is_among}
use Rattle.included_documents.specs.Meant.{meant}
use Rattle.included_strings.specs.Strings.{texts_now}
use Rattle.text_parts.specs.Marks.{marked}
use Rattle.text_parts.proofs.naming.names_of.Goals as goal

pub returns : goal.returns
returns c =
    let f = meant c.args.uris.now c.args.document in
    let strings = ap texts_now c.as_slice.ensures.value ∙ c.in_ok-strings.ensures in
    let size = ap length c.in_ok-marks.ensures ∙ length-replicate c.args.count false in
    record {
      size = ap length c.from_vec.ensures ∙ c.in_ok-note_all.ensures.size ∙ size;
      told = λ k lt.
          ap (λ (bs : List Bool). marked bs k) c.from_vec.ensures ∙ c.in_ok-note_all.ensures.told k (omega (arith, size))
          ∙ (λ j. (ap (λ (bs : List Bool). marked bs k) c.in_ok-marks.ensures ∙ get_or-replicate c.args.count k false false lt) j || is_among (filter_map f (strings j)) k);
    }
