use Rattle.included_forms.proofs.tables.text_part.Goals as goal

pub returns : goal.returns
returns c = λ o t docs text s ms k. record {
  forms = c.in_ok-forms.ensures o t docs text s ms k;
  declarations = c.in_ok-declarations.ensures o t docs text s ms k;
}
