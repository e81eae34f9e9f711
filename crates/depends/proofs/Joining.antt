-- A text that grows part by part.
pub use Rattle.trace_text.proofs.Joining.{joined}
