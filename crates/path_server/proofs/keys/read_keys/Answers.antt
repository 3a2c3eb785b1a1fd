use Rattle.std.proofs.Common.{rules, arith, ◌∷◌, [], ◌≤◌, length}
use Rattle.path_server.proofs.Following.{follows_nothing, follows_next, front, last}
use Rattle.path_server.proofs.keys.read_keys.Goals as goal

pub loop-rest-init : goal.loop-rest-init
loop-rest-init c = rw c.new-keys.ensures.items (follows_nothing c.args.text.now)

pub slice_bounds-read_key-end : goal.slice_bounds-read_key-end
slice_bounds-read_key-end c =
    let long = c.loop-rest-test.true in
    let enough : 32 ≤ length c.loop-rest.rest.now = omega (arith, long) in
    search (rules, enough)

pub returns-in_default-clause-bad : goal.returns-in_default-clause-bad
returns-in_default-clause-bad c e keys spelled =
    let (others, rest) = c.loop-rest.invariant.back keys spelled in
    let it = front c.loop-rest.rest.now others c.loop-rest-test.true rest in
    c.in_default.ensures.none it.key it.spelled

pub returns-then-rest-ne44-clause-bad : goal.returns-then-rest-ne44-clause-bad
returns-then-rest-ne44-clause-bad c e keys spelled =
    let (others, rest) = c.loop-rest.invariant.back keys spelled in
    let it = front c.loop-rest.rest.now others c.loop-rest-test.true rest in
    c.if-rest-ne44.true it.comma

pub loop-rest-preserved : goal.loop-rest-preserved
loop-rest-preserved c =
    rw c.in_ok-push.ensures.items (follows_next c.args.text.now c.loop-rest.keys.items c.loop-rest.rest.now c.in-Some.key c.loop-rest.invariant c.loop-rest-test.true c.in-Some.ensures.some c.if-rest-ne44.false)

pub returns-in_default-read_key-clause-bad : goal.returns-in_default-read_key-clause-bad
returns-in_default-read_key-clause-bad c e keys spelled =
    let (others, rest) = c.loop-rest.invariant.back keys spelled in
    let short = c.loop-rest-test.false in
    let (key, it) = last c.loop-rest.rest.now others (omega (arith, short)) rest in
    c.in_default-read_key.ensures.none key it

pub returns-clause-spelled : goal.returns-clause-spelled
returns-clause-spelled c = rw c.in_ok-push-2.ensures.items (c.loop-rest.invariant.forth (c.in-Some-read_key.key ∷ []) c.in-Some-read_key.ensures.some)
