-- What is told of a database that isn't opened.
use Rattle.std.specs.Prelude.{ℕ, List, codes}
use Rattle.up_program.specs.declared.unopened.Unopened.{Unopened as Cause}
use Rattle.up_program.specs.declared.unopened.Unopened.TheVariants.{Memory, Path, Locked, Journal, Damaged, OtherProduct, NewerSchema, OtherScheme}

-- the words for why it isn't
abbrev pub unopened_words : Cause → List ℕ
unopened_words Memory = codes "there is too little memory"
unopened_words Path = codes "its path can't be opened or made"
unopened_words Locked = codes "another program has it open"
unopened_words Journal = codes "SQLite left a journal beside it"
unopened_words Damaged = codes "it is damaged, or its disk fails"
unopened_words OtherProduct = codes "it is another product's"
unopened_words NewerSchema = codes "it has a newer schema"
unopened_words OtherScheme = codes "its keys are of the other scheme"
