pub mod ReadersAndWriters
