-- The header goes on, or came whole.
use Rattle.std.proofs.Common.{◌≡◌, ◌∷◌, [], ◌++◌, length, ◌+◌, ◌<◌, ◌∙◌, ap, sym, subst, refl, arith}
use Rattle.std.proofs.lemmas.List.{length-append}
use Rattle.amqp_frames.specs.Cut.{place_after, checked, frame_fault, header_at}
use Rattle.amqp_frames.specs.Stands.{After}
use Rattle.amqp_frames.proofs.Octets.{octet_twelfth}
use Rattle.amqp_frames.proofs.Taking.{header_whole, between_partial, after_octet}
use Rattle.amqp_frames.proofs.assembler.Assembler.take_octet.Goals as goal

pub returns-in-Some-clause-after : goal.returns-in-Some-clause-after
returns-in-Some-clause-after c = λ limits first frames rest s.
    let g = c.in-Some.ensures in
    let twelve : length rest + 1 ≡ 12 = omega (arith, g.1, ap length s.partial_is) in
    let all : c.in-Some.octets ≡ rest ++ c.args.octet ∷ [] = g.0 ∙ ap (λ xs. xs ++ c.args.octet ∷ []) s.partial_is in
    let whole : length (rest ++ c.args.octet ∷ []) ≡ 12 = omega (arith, length-append rest (c.args.octet ∷ []), twelve) in
    let header : c.of.result ≡ header_at (rest ++ c.args.octet ∷ []) = c.of.ensures ∙ header_whole c.in-Some.octets (rest ++ c.args.octet ∷ []) all whole in
    subst (λ x. After c.take_header.new.self limits first x c.take_header.result) (sym (octet_twelfth limits first frames rest c.args.octet twelve))
    (subst (λ h. After c.take_header.new.self limits first (checked (frame_fault (limits (place_after first frames)) (place_after first frames) h frames) (place_after first frames) frames (rest ++ c.args.octet ∷ [])) c.take_header.result) header
    (c.take_header.ensures.after limits first frames (rest ++ c.args.octet ∷ []) (between_partial c.args.self.now _ limits first frames rest [] s (omega arith) refl refl g.2 refl refl) whole header))

pub returns-in-None-clause-after : goal.returns-in-None-clause-after
returns-in-None-clause-after c = λ limits first frames rest s.
    let g = c.in-None.ensures in
    let short : length rest + 1 < 12 = omega (arith, g.1, ap length s.partial_is) in
    let n = length-append rest (c.args.octet ∷ []) in
    after_octet _ limits first frames rest c.args.octet short
    (between_partial c.args.self.now _ limits first frames rest (rest ++ c.args.octet ∷ []) s (omega (arith, n, short)) refl refl (g.0 ∙ ap (λ xs. xs ++ c.args.octet ∷ []) s.partial_is) refl refl)
