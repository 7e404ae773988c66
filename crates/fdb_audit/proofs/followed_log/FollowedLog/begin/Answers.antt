use Rattle.std.proofs.Common.{◌≡◌, ◌∙◌, [], Some, ap, false, if◌then◌else◌, is_some, refl, string_bytes, subst, sym, true}
use Rattle.std.specs.Prelude.{option_map}
use Rattle.std.proofs.lemmas.Bool.{false≢true}
use Rattle.fdb_audit.specs.Following.{fresh}
use Rattle.fdb_audit.specs.Program.{start_kept}
use Rattle.fdb_audit.specs.Watched.{HasFollowed}
use Rattle.fdb_audit.specs.Progress.{HasPrinted}
use Rattle.fdb_audit.specs.private.Kept.{MayStop}
use Rattle.fdb_audit.proofs.Refusing.{passed_on}
use Rattle.fdb_audit.proofs.followed_log.FollowedLog.begin.Goals as goal

pub returns-in_ok-log-in-Some-clause-begun : goal.returns-in_ok-log-in-Some-clause-begun
returns-in_ok-log-in-Some-clause-begun g c =
    let asked = c.args.asked.now in
    let (kept, more, has) = c.in_ok-log-in-Some.ensures.begun in
    let keeps : is_some asked.keep ≡ true = sym c.as_deref.ensures.variant ∙ ap is_some c.in-Some.is in (
      kept,
      more,
      λ none. absurd (false≢true (sym (ap is_some none) ∙ keeps)),
      subst (λ b. HasPrinted asked (if b then start_kept asked c.args.behind more kept else fresh c.args.behind) c.in_ok-log-in-Some.log kept []) (sym keeps) has,
    )

pub returns-in_err-log-in-Some-clause-stops : goal.returns-in_err-log-in-Some-clause-stops
returns-in_err-log-in-Some-clause-stops g c =
    let asked = c.args.asked.now in
    let fault = c.in_err-log-in-Some.field-0.0 in
    let file : Some c.in-Some.file.now ≡ option_map string_bytes asked.keep = ap (option_map (λ file. file.now)) (sym c.in-Some.is) ∙ c.as_deref.ensures.value in
    passed_on c.from_residual.result fault (MayStop (option_map string_bytes asked.keep)) c.from_residual.ensures.1
    (subst (λ file. MayStop file fault) file c.in_err-log-in-Some.ensures.stops)

pub returns-in_ok-log-in-None-clause-begun : goal.returns-in_ok-log-in-None-clause-begun
returns-in_ok-log-in-None-clause-begun g c =
    let asked = c.args.asked.now in
    let none : is_some asked.keep ≡ false = sym c.as_deref.ensures.variant ∙ ap is_some c.in-None.is in (
      [],
      0,
      λ _. (refl, refl),
      c.in_ok-log-in-None.ensures (if is_some asked.keep then start_kept asked c.args.behind 0 [] else fresh c.args.behind) []
          (subst (λ b. HasFollowed asked (if b then start_kept asked c.args.behind 0 [] else fresh c.args.behind) c.in_ok-follower-in-None.follower [] []) (sym none) c.in_ok-follower-in-None.ensures.followed),
    )
