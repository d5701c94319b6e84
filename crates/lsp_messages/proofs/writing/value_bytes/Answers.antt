use Rattle.std.proofs.Common.{◌∙◌}
use Rattle.lsp_messages.proofs.Bodies.{json_of-utf8}
use Rattle.lsp_messages.proofs.writing.value_bytes.Goals as goal

pub returns : goal.returns
returns c whole shallow = record {
  text = c.in_ok-to_vec.ensures.text whole;
  reads_back = json_of-utf8 c.in_ok-to_vec.field-0.items c.in_ok-to_vec.ensures.utf8 ∙ c.in_ok-to_vec.ensures.reads_back shallow;
}
