use Rattle.std.proofs.Common.{◌≡◌, ◌∙◌, ◌++◌, ◌∷◌, [], None, Some, ap, append_assoc, arith, map, rules, string_bytes, sym}
use Rattle.std.proofs.lemmas.List.{map-append}
use Rattle.std.proofs.lemmas.Str.Pattern.{split_parts}
use Rattle.std.specs.List.{slice_split}
use Rattle.fdb_audit.specs.Program.{is_comma}
use Rattle.fdb_audit.proofs.NamedMembers.{first_part, one_part}
use Rattle.fdb_audit.proofs.arguments.members_in.Goals as goal

pub loop-member-preserved : goal.loop-member-preserved
loop-member-preserved c =
    let rest = c.loop-member.rest.now in
    let more = slice_split is_comma c.in-Some.more.now in
    let parts = split_parts 44 rest (Some (c.in-Some.member, c.in-Some.more)) c.in-Some.ensures.cases (omega arith) in
    let split : slice_split is_comma rest ≡ c.in-Some.member.now ∷ more = ap (slice_split is_comma) parts.0 ∙ first_part c.in-Some.member.now c.in-Some.more.now parts.1 in
    let members = map string_bytes c.loop-member.members.items in
    let pushed : map string_bytes c.push.new.self.items ≡ members ++ c.in-Some.member.now ∷ [] =
    ap (map string_bytes) c.in_ok-push.ensures.items ∙ (map-append string_bytes c.loop-member.members.items _ ∙ ap (λ one. members ++ one ∷ []) c.in_ok-from_str.ensures.ok) in
    (ap (λ those. those ++ more) pushed ∙ (append_assoc members (c.in-Some.member.now ∷ []) more ∙ (ap (λ those. members ++ those) (sym split) ∙ c.loop-member.invariant.0)), search rules)

pub returns : goal.returns
returns c =
    let rest = c.loop-member.rest.now in
    let split = one_part rest (split_parts 44 rest None c.in_default.ensures.cases (omega arith)) in
    let members = map string_bytes c.loop-member.members.items in
    ap (map string_bytes) c.in_ok-push-2.ensures.items
    ∙ (map-append string_bytes c.loop-member.members.items _
    ∙ (ap (λ one. members ++ one ∷ []) c.in_ok-from_str-2.ensures.ok ∙ (ap (λ those. members ++ those) (sym split) ∙ c.loop-member.invariant.0)))
