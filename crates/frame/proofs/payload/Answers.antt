use Rattle.std.proofs.Common.{◌∙◌, refl, arith}
use Rattle.refusal.proofs.First.{positive}
use Rattle.frame.specs.Reading.{payload_of}
use Rattle.frame.proofs.Answers.{refused_number, accepted_fields, accepted_payload, accepted_there}
use Rattle.frame.proofs.payload.Goals as goal

pub returns-in_default-clause-result_value : goal.returns-in_default-clause-result_value
unfolding payload_of
returns-in_default-clause-result_value c =
    let number = refused_number c.args.frame.now c.read.ensures c.in_default.is in
    rw (number, (positive c.in_default.field-0).1)

pub returns-in_default-clause-stands_in : goal.returns-in_default-clause-stands_in
returns-in_default-clause-stands_in c =
    let number = refused_number c.args.frame.now c.read.ensures c.in_default.is in
    (refl, λ h. absurd (omega (arith, h, number, (positive c.in_default.field-0).1)))

pub returns-clause-result_value : goal.returns-clause-result_value
returns-clause-result_value c = c.«data».ensures.result_value ∙ accepted_payload c.args.frame.now c.read.ensures c.in-Ok.is

pub returns-clause-stands_in : goal.returns-clause-stands_in
returns-clause-stands_in c =
    let frame = c.args.frame.now in
    let place = c.«data».ensures.stands_in.1 (accepted_there frame c.read.ensures c.in-Ok.is) in
    (c.«data».ensures.stands_in.0, λ h. rw (← accepted_fields frame c.read.ensures c.in-Ok.is) place)
