mod HeadersRead
mod SectionsFound
mod ImageSizes
mod ImagesRead
pub mod WrittenParts
mod HeaderLoops
