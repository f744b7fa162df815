pub use Rattle.linemap_emit.proofs.LookupsWithoutLoads
mod LoadedImages
mod ImageBounds
