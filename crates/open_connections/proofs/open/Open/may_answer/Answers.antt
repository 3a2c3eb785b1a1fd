use Rattle.std.proofs.Common.{◌<◌, ◌≤◌, ◌≡◌, ◌^◌, ◌∙◌, length, ℕ, Bool, Option, ap, refl, rules, subst, sym}
use Rattle.std.specs.Prelude.{IfSome, IsFalse, IsTrue}
use Rattle.slab.specs.Slab.{get}
use Rattle.connection_turns.specs.Cores.{IsMost}
use Rattle.connection_turns.specs.declared.claim.Claim.{Claim}
use Rattle.connection_turns.specs.declared.claim.Need.{Need}
use Rattle.open_connections.specs.Joined.{Joined}
use Rattle.open_connections.specs.Shares.{claim_at, is_covered}
use Rattle.open_connections.specs.Turns.{AreCovered, IsCovered, IsForReply, IsQueued}
use Rattle.open_connections.proofs.Joined.{claim_is}
use Rattle.open_connections.proofs.Keeping.{err_always, for_reply, most_at, ok_always, ok_map, short_at, shorter_covered, there_still}
use Rattle.open_connections.proofs.Turns.{at_any}
use Rattle.open_connections.proofs.open.Open.may_answer.Goals as goal

pub returns-clause-queued : goal.returns-clause-queued
returns-clause-queued g c =
    let before : Bool → Type 0 = λ held. IsFalse held → IfSome (get c.yield_share.new.self.connections c.args.key) (λ _. IsQueued c.args.key c.claim.new.self) in
    let behind : Bool → Type 0 = λ may. IsFalse may → c.args.key < 2 ^ 32 → IfSome (get c.args.self.now.connections c.args.key) (λ _. IsQueued c.args.key c.claim.new.self) in
    ok_map before behind c.claim.result (λ held q f k. there_still _ _ (get c.args.self.now.connections c.args.key) (get c.yield_share.new.self.connections c.args.key) (c.yield_share.ensures.ready.at c.args.key) (q f)) c.claim.ensures.queued

pub returns-then-covers-clause-covered : goal.returns-then-covers-clause-covered
returns-then-covers-clause-covered g c = λ f j reply core x.
    let most : IsMost (g.C.LoopCore.steps.answers c.args.key) (g.C.LoopCore.steps.seen c.args.self.now.core) c.front-front.result.most_reply = most_at g.C.LoopCore.steps.answers c.in-Some.conn c.args.key (g.C.LoopCore.steps.seen c.inner.result.now) (g.C.LoopCore.steps.seen c.args.self.now.core) c.front-front.result.most_reply c.in-Some.ensures.same (ap g.C.LoopCore.steps.seen c.inner.ensures) c.front-front.ensures.most in
    shorter_covered (claim_at c.args.self.now.connections c.args.key) (length reply) c.front-front.result.most_reply (most reply core x)
    (ap (λ (x : Option Claim). is_covered x c.front-front.result.most_reply) (claim_is c.args.self.now.connections c.args.key c.in-Some-get.connection.now _ (search rules) refl) ∙ sym c.covers.ensures ∙ c.if-covers.true)

pub returns-clause-covered : goal.returns-clause-covered
returns-clause-covered g c =
    let need = c.need_of_reply-reply.result in
    let e = c.need_of_reply-reply.ensures in
    let before : Bool → Type 0 = λ held. IsTrue held → Joined (claim_at c.yield_share.new.self.connections) c.yield_share.new.self.budgets → IsForReply need → IsCovered c.args.key need.bytes c.claim.new.self in
    let behind : Bool → Type 0 = λ may. IsTrue may → AreCovered g.C.LoopCore.steps c.args.key c.args.self.now c.claim.new.self in
    let bytes : need.bytes ≡ c.front-front.result.most_reply = ap (λ (x : Need). x.bytes) e in
    ok_map before behind c.claim.result (λ held q f j reply core x.
    let most : IsMost (g.C.LoopCore.steps.answers c.args.key) (g.C.LoopCore.steps.seen c.args.self.now.core) c.front-front.result.most_reply = most_at g.C.LoopCore.steps.answers c.in-Some.conn c.args.key (g.C.LoopCore.steps.seen c.inner.result.now) (g.C.LoopCore.steps.seen c.args.self.now.core) c.front-front.result.most_reply c.in-Some.ensures.same (ap g.C.LoopCore.steps.seen c.inner.ensures) c.front-front.ensures.most in
    shorter_covered (claim_at c.claim.new.self.connections c.args.key) (length reply) need.bytes (subst (λ (n : ℕ). length reply ≤ n) (sym bytes) (most reply core x))
    (q f (c.yield_share.ensures.lanes.joined j) (for_reply need _ e (refl, refl, search rules)))) c.claim.ensures.covered

pub returns-clause-short : goal.returns-clause-short
returns-clause-short g c =
    ok_always _ c.claim.result (λ may f k. at_any _ (get c.args.self.now.connections c.args.key)
    (short_at g.C.LoopCore.steps c.in-Some.conn c.args.key c.inner.result.now c.args.self.now c.front-front.result c.in-Some.ensures.same c.inner.ensures c.front-front.ensures.ahead
    (ap (λ (x : Option Claim). is_covered x c.front-front.result.most_reply) (claim_is c.args.self.now.connections c.args.key c.in-Some-get.connection.now _ (search rules) refl) ∙ sym c.covers.ensures ∙ search rules)))

pub returns-clause-refused : goal.returns-clause-refused
returns-clause-refused g c =
    err_always _ c.claim.result (λ k. at_any _ (get c.args.self.now.connections c.args.key)
    (short_at g.C.LoopCore.steps c.in-Some.conn c.args.key c.inner.result.now c.args.self.now c.front-front.result c.in-Some.ensures.same c.inner.ensures c.front-front.ensures.ahead
    (ap (λ (x : Option Claim). is_covered x c.front-front.result.most_reply) (claim_is c.args.self.now.connections c.args.key c.in-Some-get.connection.now _ (search rules) refl) ∙ sym c.covers.ensures ∙ search rules)))

pub returns-then-covers-clause-queued : goal.returns-then-covers-clause-queued
returns-then-covers-clause-queued g c = λ f k. absurd cc

pub returns-then-covers-clause-short : goal.returns-then-covers-clause-short
returns-then-covers-clause-short g c = λ f k. absurd cc
