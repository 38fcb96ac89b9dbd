use Rattle.spelling.proofs.+put_number.Goals as goal
use borrow.Author.Rules.{rules}
use Rattle.spelling.proofs.Digits.{digit_puts}

ruleset laws = (rules, digit_puts)

-- src/lib.rt:47:9
pub put_digit-requires : goal.put_digit-requires
put_digit-requires t c = search laws

-- src/lib.rt:47:9
pub returns-then-n-lt10 : goal.returns-then-n-lt10
returns-then-n-lt10 t c = search laws

-- src/lib.rt:50:13
pub put_digit-next-requires : goal.put_digit-next-requires
put_digit-next-requires t c = search laws

-- src/lib.rt:51:9
pub returns-then-n-lt100 : goal.returns-then-n-lt100
returns-then-n-lt100 t c = search laws

-- src/lib.rt:54:13
pub put_digit-next-requires-then-n-lt1000 : goal.put_digit-next-requires-then-n-lt1000
put_digit-next-requires-then-n-lt1000 t c = search laws

-- src/lib.rt:56:9
pub returns-then-n-lt1000 : goal.returns-then-n-lt1000
returns-then-n-lt1000 t c = search laws

-- src/lib.rt:58:9
pub put_number-next-requires : goal.put_number-next-requires
put_number-next-requires t c = search laws

-- src/lib.rt:41:1
pub returns : goal.returns
returns t c = search laws
