use Rattle.std.proofs.Common.{length, arith, eqb-true, eq-eqb, ◌-◌}
use Rattle.path_server.proofs.Framed.{is_request, request_spells}
use Rattle.path_server.proofs.request_lines.is_request.Goals as goal

pub returns-then-length-le-LONGEST_BODY : goal.returns-then-length-le-LONGEST_BODY
returns-then-length-le-LONGEST_BODY c =
    let four = c.if-frame-lt-LENGTH_BYTES.false in
    let s = c.spelled_length-length.ensures in
    let spelled = s.length_is in (
      λ same. let e = eqb-true c.spelled_length-length.result (length c.args.frame.now - 4) same in
          is_request c.args.frame.now c.spelled_length-length.result s (omega (arith, e, four)) c.if-length-le-LONGEST_BODY.true,
      λ r. let w = request_spells c.args.frame.now r in let long = w.1 in
          eq-eqb c.spelled_length-length.result (length c.args.frame.now - 4) (omega (arith, long, spelled)),
    )
