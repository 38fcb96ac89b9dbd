use Rattle.linechoices.proofs.WordLaws.{word_laws}
use Rattle.linechoices.proofs.choice_of.Goals as goal

pub unary_choice-requires-clause-ciphertext_value : goal.unary_choice-requires-clause-ciphertext_value
unary_choice-requires-clause-ciphertext_value c = search word_laws

pub unary_choice-requires-in-Rot-clause-ciphertext_value : goal.unary_choice-requires-in-Rot-clause-ciphertext_value
unary_choice-requires-in-Rot-clause-ciphertext_value c = search word_laws

pub sum_choice-requires-clause-ciphertext_value : goal.sum_choice-requires-clause-ciphertext_value
sum_choice-requires-clause-ciphertext_value c = search word_laws

pub product_choice-requires-clause-ciphertext_value : goal.product_choice-requires-clause-ciphertext_value
product_choice-requires-clause-ciphertext_value c = search word_laws

pub own_choice-requires : goal.own_choice-requires
own_choice-requires c = search word_laws

pub returns-in-In : goal.returns-in-In
returns-in-In c = search word_laws

pub returns-in-Neg : goal.returns-in-Neg
returns-in-Neg c = search word_laws

pub returns-in-Rot : goal.returns-in-Rot
returns-in-Rot c = search word_laws

pub returns-in-Add : goal.returns-in-Add
returns-in-Add c = search word_laws

pub returns-in-Mul : goal.returns-in-Mul
returns-in-Mul c = search word_laws
