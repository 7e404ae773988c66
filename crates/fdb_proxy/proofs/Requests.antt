-- Requests: a token that is as it was, and options of their own.
use Rattle.std.proofs.Common.{true, ◌≡◌, None, length, refl, sym, subst}
use Rattle.std.proofs.Props.{props}
use Rattle.std.proofs.lemmas.Bool.{eq-eqb}
use Rattle.fdb_history.specs.declared.log.Priority.{Priority}
use Rattle.fdb_history.specs.declared.log.Priority.TheVariants.{System, Default, Batch}
use Rattle.fdb_queue.specs.declared.waiting.Req.{Req}
use Rattle.fdb_queue.specs.Waiting.{is_priority}
use Rattle.fdb_proxy.specs.Options.{has_own_options}
use Rattle.fdb_history.specs.declared.service.Service.{Ghosts as ServiceGhosts}
use Rattle.fdb_live.specs.declared.seen.Live.{Ghosts as LiveGhosts}
use Rattle.fdb_live.specs.Seen.{Sight}
use Rattle.fdb_proxy.specs.declared.request.Request.{Request}

is_own : (priority : Priority) → is_priority priority priority ≡ true
is_own System = refl
is_own Default = refl
is_own Batch = refl

module _ {S : Type 0} {live : LiveGhosts S} {service : ServiceGhosts S} where
  pub same_request : (request : Request S live service) (seen : Sight) (unnumbered : seen.reporter ≡ None) (position : request.asked ≡ length seen.changes) → seen ≡ request.seen
      → record { client = request.client; serial = request.serial; asked = request.asked; seen = seen; opts = request.opts; reply = request.reply; unnumbered = unnumbered; position = position } ≡ request
  same_request request seen unnumbered position same =
      let P : Sight → Type 0 = λ s. (u : s.reporter ≡ None) (p : request.asked ≡ length s.changes) → ◌≡◌ {A = Request S live service} (record { client = request.client; serial = request.serial; asked = request.asked; seen = s; opts = request.opts; reply = request.reply; unnumbered = u; position = p }) request in
      subst P (sym same) (λ u p.
      let one_u : IsProp (request.seen.reporter ≡ None) = Prim.hlevel props in
      let one_p : IsProp (request.asked ≡ length request.seen.changes) = Prim.hlevel props in
      let same_u : u ≡ request.unnumbered = one_u u request.unnumbered in
      let same_p : p ≡ request.position = one_p p request.position in
      rw (same_u, same_p) refl) unnumbered position

  pub own_options : (request : Req (Request S live service)) → request.priority ≡ request.payload.opts.priority → request.count ≡ request.payload.opts.count → has_own_options request ≡ true
  own_options request priority count =
      let one : is_priority request.priority request.payload.opts.priority ≡ true = rw priority (is_own request.payload.opts.priority) in
      let other = eq-eqb request.count request.payload.opts.count count in
      rw (one, other) refl
