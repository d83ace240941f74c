-- What a call that passed says of what it tested.
pub use Rattle.up_machine.proofs.SoundRows.{read_is}
