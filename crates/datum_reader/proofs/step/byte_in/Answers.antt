use Rattle.std.proofs.Common.{◌∙◌, sym, subst, map}
use Rattle.std.specs.Str.{chars}
use Rattle.std.proofs.lemmas.Result.{err_from_is_err_and}
use Rattle.datum_reader.specs.Views.{leaf_of, data_of}
use Rattle.datum_reader.specs.OpenViews.{spot_of, stack_of, frame_of, Fails}
use Rattle.datum_reader.specs.Open.{byte_of}
use Rattle.datum_reader.proofs.StepLaws.{byte_same}
use Rattle.datum_reader.proofs.step.byte_in.Goals as goal

pub returns-in_err-byte : goal.returns-in_err-byte
returns-in_err-byte c =
    let p = err_from_is_err_and c.from_residual.result c.from_residual.ensures.1 in
    rw (p.1, p.2)
    (λ texts e. subst (λ q. Fails c.in_err-byte.field-0.0 q)
    (byte_same (byte_of (leaf_of c.args.atom)) (map chars c.split_bytes-rest.result.1.items) texts (spot_of c.args.spot) (frame_of c.args.frame) (frame_of c.split_bytes-rest.result.0)
    (data_of c.args.state.now.items.items) (stack_of c.args.state.now.stack.items) (c.split_bytes-rest.ensures.texts texts e) c.split_bytes-rest.ensures.rest)
    c.in_err-byte.ensures)

pub returns : goal.returns
returns c = λ texts e.
    sym (byte_same (byte_of (leaf_of c.args.atom)) (map chars c.split_bytes-rest.result.1.items) texts (spot_of c.args.spot) (frame_of c.args.frame) (frame_of c.split_bytes-rest.result.0)
    (data_of c.args.state.now.items.items) (stack_of c.args.state.now.stack.items) (c.split_bytes-rest.ensures.texts texts e) c.split_bytes-rest.ensures.rest)
    ∙ c.in_ok-byte.ensures
