use Rattle.matchers.proofs.selector.Part.into_matcher.Goals as goal

pub returns-in-Err-PatternTooLong-clause-err : goal.returns-in-Err-PatternTooLong-clause-err
returns-in-Err-PatternTooLong-clause-err c =
    let found = c.in-Err-PatternTooLong.ensures.too_long (let e = c.in-Err-PatternTooLong.field-0-is in cc) in
    rw (← c.self.view_is) (found.1, found.2)

pub returns-in-Err-PatternRefused-clause-err : goal.returns-in-Err-PatternRefused-clause-err
returns-in-Err-PatternRefused-clause-err c =
    let found = c.in-Err-PatternRefused.ensures.refused (let e = c.in-Err-PatternRefused.field-0-is in cc) in
    rw (← c.self.view_is) (found.0, found.1)
